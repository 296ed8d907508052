-- Texts of many parts.
use Rattle.std.proofs.Common.{◌≡◌, [], ◌∷◌, ◌++◌, length, take, drop, refl, ap, ◌∙◌, append_assoc}
use Rattle.c_lex.specs.Bytes.{Bytes}

-- three parts, grouped from the right
pub right3 : (a b c : Bytes) → a ++ b ++ c ≡ a ++ (b ++ c)
right3 a b c = append_assoc a b c

-- four parts
pub right4 : (a b c d : Bytes) → a ++ b ++ c ++ d ≡ a ++ (b ++ (c ++ d))
right4 a b c d = append_assoc (a ++ b) c d ∙ right3 a b (c ++ d)

-- five parts
pub right5 : (a b c d e : Bytes) → a ++ b ++ c ++ d ++ e ≡ a ++ (b ++ (c ++ (d ++ e)))
right5 a b c d e = append_assoc (a ++ b ++ c) d e ∙ right4 a b c (d ++ e)

-- six parts
pub right6 : (a b c d e f : Bytes) → a ++ b ++ c ++ d ++ e ++ f ≡ a ++ (b ++ (c ++ (d ++ (e ++ f))))
right6 a b c d e f = append_assoc (a ++ b ++ c ++ d) e f ∙ right5 a b c d (e ++ f)

-- seven parts
pub right7 : (a b c d e f g : Bytes) → a ++ b ++ c ++ d ++ e ++ f ++ g ≡ a ++ (b ++ (c ++ (d ++ (e ++ (f ++ g)))))
right7 a b c d e f g = append_assoc (a ++ b ++ c ++ d ++ e) f g ∙ right6 a b c d e (f ++ g)

-- eight parts
pub right8 : (a b c d e f g h : Bytes) → a ++ b ++ c ++ d ++ e ++ f ++ g ++ h ≡ a ++ (b ++ (c ++ (d ++ (e ++ (f ++ (g ++ h))))))
right8 a b c d e f g h = append_assoc (a ++ b ++ c ++ d ++ e ++ f) g h ∙ right7 a b c d e f (g ++ h)

-- what stands after a prefix
pub prefix_dropped : (w rest : Bytes) → drop (length w) (w ++ rest) ≡ rest
prefix_dropped [] rest = refl
prefix_dropped (b ∷ w) rest = prefix_dropped w rest

-- a prefix is the first bytes
pub prefix_taken : (w rest : Bytes) → take (length w) (w ++ rest) ≡ w
prefix_taken [] rest = refl
prefix_taken (b ∷ w) rest = ap (λ y. b ∷ y) (prefix_taken w rest)
