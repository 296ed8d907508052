-- The value that bytes are as JSON text.
use Rattle.std.proofs.Common.{◌≡◌, ℕ, List, true, false, cond, None, refl}
use Rattle.std.specs.Str.{is_utf8}
use Rattle.std.specs.Prelude.{IsUtf8}
use Rattle.std.proofs.lemmas.Str.{IsUtf8-from_is_utf8, is_utf8-from_IsUtf8}
use Rattle.serde_json.specs.Read.{read}
use Rattle.test_suite.specs.Suite.{document}

-- UTF-8 is read as it stands
pub document-utf8 : (bytes : List ℕ) → IsUtf8 bytes → document bytes ≡ read bytes
document-utf8 bytes text = rw (is_utf8-from_IsUtf8 bytes text)

-- what is refused if it is UTF-8 is no document
pub document-refused : (bytes : List ℕ) → (IsUtf8 bytes → read bytes ≡ None) → document bytes ≡ None
document-refused bytes refused =
    elim (is_utf8 bytes) as (λ b. is_utf8 bytes ≡ b → cond b (read bytes) None ≡ None)
    [ true ↦ λ valid. refused (IsUtf8-from_is_utf8 bytes valid) | false ↦ λ broken. refl ] refl
