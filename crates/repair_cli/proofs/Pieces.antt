-- A message that is written in pieces, one after another.
use Rattle.std.proofs.Common.{◌≡◌, ℕ, ◌+◌, ◌<◌, ◌≤◌, List, [], ◌++◌, length, take, append-nil, refl, sym, ap, ◌∙◌, arith, append_assoc, length-append}
use Rattle.std.specs.Prelude.{Option, Some, None}
use Rattle.std.proofs.lemmas.List.{take-append-le}
use Rattle.std.proofs.Math.Seq.{take-append-add}
use Rattle.fx_io.specs.Written.{appended}
use Rattle.fx_io.proofs.FaultCounts.{Rose-later}
use Rattle.repair_cli.specs.Sinks.{Seen, Takes, Breaks}

-- a sink with these counts and bytes
abbrev pub sink : ℕ → ℕ → Option (List ℕ) → Option (List ℕ) → Seen
sink faults after bytes bytes_after = record { faults = faults; faults_after = after; bytes = bytes; bytes_after = bytes_after }

-- a prefix of these bytes was appended, and not all
abbrev AppendsSome : Option (List ℕ) → Option (List ℕ) → List ℕ → Type 0
AppendsSome first last bytes = (n : ℕ) × (n < length bytes) × (last ≡ appended first (take n bytes))

-- what was appended to appended bytes is appended to the first
appended-appended : (first : Option (List ℕ)) (a b : List ℕ) → appended (appended first a) b ≡ appended first (a ++ b)
appended-appended None a b = refl
appended-appended (Some w) a b = ap Some (append_assoc w a b)

-- one piece was appended after another
pub appends_both : (first mid last : Option (List ℕ)) (a b : List ℕ) → mid ≡ appended first a → last ≡ appended mid b → last ≡ appended first (a ++ b)
appends_both first mid last a b one two = two ∙ ap (λ m. appended m b) one ∙ appended-appended first a b

-- a prefix of a piece is a prefix of that piece and another
prefix_of_first : (first last : Option (List ℕ)) (a b : List ℕ) → AppendsSome first last a → AppendsSome first last (a ++ b)
prefix_of_first first last a b (n, within, some) =
    let le : n ≤ length a = omega arith in
    (n, omega (arith, length-append a b, within), some ∙ ap (appended first) (sym (take-append-le n a b le)))

-- one piece was appended, and a prefix of the next
prefix_of_second : (first mid last : Option (List ℕ)) (a b : List ℕ) → mid ≡ appended first a → AppendsSome mid last b → AppendsSome first last (a ++ b)
prefix_of_second first mid last a b one (n, within, some) =
    (length a + n, omega (arith, length-append a b, within), appends_both first mid last a (take n b) one some ∙ ap (appended first) (sym (take-append-add a b n)))

-- the write of the piece after appended bytes failed
pub breaks_after : (f0 f1 f2 : ℕ) (first mid last : Option (List ℕ)) (a b : List ℕ) → f0 ≤ f1 → mid ≡ appended first a → Breaks (sink f1 f2 mid last) b → Breaks (sink f0 f2 first last) (a ++ b)
breaks_after f0 f1 f2 first mid last a b later one broken = record { rose = Rose-later f0 f1 f2 later broken.rose; some = prefix_of_second first mid last a b one broken.some }

-- a failed write of some bytes is one of these bytes and more
pub breaks_longer : (f0 f1 : ℕ) (first last : Option (List ℕ)) (a b : List ℕ) → Breaks (sink f0 f1 first last) a → Breaks (sink f0 f1 first last) (a ++ b)
breaks_longer f0 f1 first last a b broken = record { rose = broken.rose; some = prefix_of_first first last a b broken.some }

-- the write of the piece after two appended ones failed
pub breaks_third : (f0 f1 f2 f3 : ℕ) (first mid next last : Option (List ℕ)) (a b c : List ℕ) → f0 ≤ f1 → f1 ≤ f2 → mid ≡ appended first a → next ≡ appended mid b
    → Breaks (sink f2 f3 next last) c → Breaks (sink f0 f3 first last) (a ++ b ++ c)
breaks_third f0 f1 f2 f3 first mid next last a b c later more one two broken =
    breaks_after f0 f2 f3 first next last (a ++ b) c (omega (arith, later, more)) (appends_both first mid next a b one two) broken

-- the write of the piece after three appended ones failed
pub breaks_fourth : (f0 f1 f2 f3 f4 : ℕ) (first mid next late last : Option (List ℕ)) (a b c d : List ℕ) → f0 ≤ f1 → f1 ≤ f2 → f2 ≤ f3
    → mid ≡ appended first a → next ≡ appended mid b → late ≡ appended next c → Breaks (sink f3 f4 late last) d → Breaks (sink f0 f4 first last) (a ++ b ++ c ++ d)
breaks_fourth f0 f1 f2 f3 f4 first mid next late last a b c d later more most one two three broken =
    breaks_third f0 f2 f3 f4 first next late last (a ++ b) c d (omega (arith, later, more)) most (appends_both first mid next a b one two) three broken

-- ---- whole writes

-- one piece was written after another
pub takes_both : (f0 f1 f2 : ℕ) (first mid last : Option (List ℕ)) (a b : List ℕ) → Takes (sink f0 f1 first mid) a → Takes (sink f1 f2 mid last) b → Takes (sink f0 f2 first last) (a ++ b)
takes_both f0 f1 f2 first mid last a b one two = record { steady = two.steady ∙ one.steady; added = appends_both first mid last a b one.added two.added }

-- nothing was written to a sink that wasn't touched
pub takes_none : (f : ℕ) (bytes : Option (List ℕ)) → Takes (sink f f bytes bytes) []
takes_none f None = record { steady = refl; added = refl }
takes_none f (Some w) = record { steady = refl; added = ap Some (sym (append-nil w)) }
