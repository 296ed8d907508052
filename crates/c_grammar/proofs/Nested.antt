-- Openers of parts that follow one another, with the room after each: what joins them.
use Rattle.std.proofs.Common.{◌≡◌, ℕ, zero, suc, ◌≤◌, ◌<◌, ◌+◌, Bool, true, false, List, [], ◌∷◌, ◌++◌, ◌⊎◌, inl, inr, refl, ap, ◌∙◌, arith, length, if◌then◌else◌}
use Rattle.std.proofs.lemmas.Bool.Decides.{nat_tests}
use Rattle.c_grammar.specs.Grammar.{Tokens}
use Rattle.c_grammar.specs.Nesting.{Opener, is_open, nesting}
use Rattle.c_grammar.specs.Rooms.{Along}

-- ---- pairs

pub along_map : {P R : Opener → ℕ → Type 0} {k : List Opener} {q : List ℕ} → ((o : Opener) (n : ℕ) → P o n → R o n) → Along P k q → Along R k q
along_map f Along.none = Along.none
along_map f (Along.also {o = o} {n = n} x y) = Along.also (f o n x) (along_map f y)

pub along_join : {P : Opener → ℕ → Type 0} {k l : List Opener} {q s : List ℕ} → Along P k q → Along P l s → Along P (k ++ l) (q ++ s)
along_join Along.none z = z
along_join (Along.also x y) z = Along.also x (along_join y z)

-- ---- the nesting

counted : Bool → ℕ → ℕ
counted x n = if x then suc n else n

added : (x : Bool) (n m : ℕ) → (if x then suc (n + m) else n + m) ≡ (if x then suc n else n) + m
added true n m = omega arith
added false n m = refl

-- the nesting of two lists of openers
pub nesting_join : (k l : List Opener) (c : Tokens) → nesting (k ++ l) c ≡ nesting k c + nesting l c
nesting_join [] l c = omega arith
nesting_join (o ∷ k) l c = ap (λ n. if is_open o c then suc n else n) (nesting_join k l c) ∙ added (is_open o c) (nesting k c) (nesting l c)

pub is_open_there : (a b c : Tokens) → length c ≤ length a → length b < length c → is_open (a, b) c ≡ true
is_open_there a b c h i = grind (arith, nat_tests)

pub is_open_before : (a b c : Tokens) → length a < length c → is_open (a, b) c ≡ false
is_open_before a b c h = grind (arith, nat_tests)

pub is_open_after : (a b c : Tokens) → length c ≤ length b → is_open (a, b) c ≡ false
is_open_after a b c h = grind (arith, nat_tests)

pub one_there : (a b c : Tokens) → length c ≤ length a → length b < length c → nesting ((a, b) ∷ []) c ≡ 1
one_there a b c h i = ap (λ (x : Bool). if x then 1 else 0) (is_open_there a b c h i)

pub one_before : (a b c : Tokens) → length a < length c → nesting ((a, b) ∷ []) c ≡ 0
one_before a b c h = ap (λ (x : Bool). if x then 1 else 0) (is_open_before a b c h)

pub one_after : (a b c : Tokens) → length c ≤ length b → nesting ((a, b) ∷ []) c ≡ 0
one_after a b c h = ap (λ (x : Bool). if x then 1 else 0) (is_open_after a b c h)

one_most : (x : Bool) → (if x then 1 else 0) ≤ 1
one_most true = omega arith
one_most false = omega arith

-- ---- openers that fit the rooms

-- NestsIn r m i j e k q: in a part with i tokens before it and j after it, and room r before it and m after it, the openers k stand, with the
-- rooms q after them. Those that aren't closed in it are closed where e tokens are left.
pub record NestsIn (r m i j e : ℕ) (k : List Opener) (q : List ℕ) : Type 0 where
  pub less : m ≤ r
  pub ordered : j ≤ i
  pub shut : e ≤ j
  pub before : (c : Tokens) → i < length c → nesting k c ≡ 0
  pub after : (c : Tokens) → length c ≤ j → e < length c → nesting k c + m ≡ r
  pub closed : (c : Tokens) → length c ≤ e → nesting k c ≡ 0
  pub bounded : (c : Tokens) → nesting k c ≤ r
  pub along : Along (λ o n. (j < length o.0) × (length o.0 ≤ i) × (nesting k o.0 + n ≡ r)) k q

-- where a part has no opener
pub nests_none : (r i j e : ℕ) → j ≤ i → e ≤ j → NestsIn r r i j e [] []
nests_none r i j e h l = record { less = omega arith; ordered = h; shut = l; before = λ c x. refl; after = λ c x y. omega arith; closed = λ c x. refl; bounded = λ c. omega arith; along = Along.none }

-- one opener
pub nests_one : (m i j : ℕ) (a b : Tokens) → length a ≤ i → j < length a → length b ≤ j → NestsIn (suc m) m i j (length b) ((a, b) ∷ []) (m ∷ [])
nests_one m i j a b h l x = record {
  less = omega arith;
  ordered = omega arith;
  shut = x;
  before = λ c y. one_before a b c (omega arith);
  after = λ c y z. ap (λ n. n + m) (one_there a b c (omega arith) z) ∙ omega arith;
  closed = λ c y. one_after a b c y;
  bounded = λ c. let y = one_most (is_open (a, b) c) in omega arith;
  along = Along.also (l, h, ap (λ n. n + m) (one_there a b a (omega arith) (omega arith)) ∙ omega arith) Along.none;
}

-- which of two numbers is the larger
pub larger : (n m : ℕ) → (n ≤ m) ⊎ (m < n)
larger zero m = inl (omega arith)
larger (suc n) zero = inr (omega arith)
larger (suc n) (suc m) = elim (larger n m) [ inl h ↦ inl (omega arith) | inr h ↦ inr (omega arith) ]

-- a part after a part
pub nests_join : {r m n i j h p e : ℕ} {k l : List Opener} {q s : List ℕ} → NestsIn r m i j e k q → NestsIn m n h p e l s → h ≤ j → NestsIn r n i p e (k ++ l) (q ++ s)
nests_join {r} {m} {n} {i} {j} {h} {p} {e} {k} {l} {q} {s} f g x = record {
  less = let y = f.less in let z = g.less in omega arith;
  ordered = let y = f.ordered in let z = g.ordered in omega arith;
  shut = g.shut;
  before = λ c y. let o = f.ordered in nesting_join k l c ∙ (let u = f.before c y in let v = g.before c (omega arith) in omega arith);
  after = λ c y z. let o = g.ordered in let u = f.after c (omega arith) z in let v = g.after c y z in let w = nesting_join k l c in omega arith;
  closed = λ c y. let u = f.closed c y in let v = g.closed c y in let w = nesting_join k l c in omega arith;
  bounded = λ c. within c (larger (length c) e) (larger (length c) h);
  along = along_join (along_map first f.along) (along_map second g.along);
}
  where
    within : (c : Tokens) → (length c ≤ e) ⊎ (e < length c) → (length c ≤ h) ⊎ (h < length c) → nesting (k ++ l) c ≤ r
    within c (inl y) w = let u = f.closed c y in let v = g.closed c y in let t = nesting_join k l c in omega arith
    within c (inr y) (inl z) = let u = f.after c (omega arith) y in let v = g.bounded c in let t = nesting_join k l c in omega arith
    within c (inr y) (inr z) = let u = f.bounded c in let v = g.before c z in let t = nesting_join k l c in omega arith

    first : (o : Opener) (n : ℕ) → (j < length o.0) × (length o.0 ≤ i) × (nesting k o.0 + n ≡ r) → (p < length o.0) × (length o.0 ≤ i) × (nesting (k ++ l) o.0 + n ≡ r)
    first o n (y, z, w) = let a = g.ordered in let u = g.before o.0 (omega arith) in let t = nesting_join k l o.0 in (omega arith, z, omega arith)

    second : (o : Opener) (n : ℕ) → (p < length o.0) × (length o.0 ≤ h) × (nesting l o.0 + n ≡ m) → (p < length o.0) × (length o.0 ≤ i) × (nesting (k ++ l) o.0 + n ≡ r)
    second o n (y, z, w) = let a = g.shut in let b = f.ordered in let u = f.after o.0 (omega arith) (omega arith) in let t = nesting_join k l o.0 in (y, omega arith, omega arith)

-- an opener before a part
pub nests_open : {m n h j : ℕ} {k : List Opener} {q : List ℕ} (a b : Tokens) → NestsIn m n h j (length b) k q → h < length a → NestsIn (suc m) n (length a) j (length b) ((a, b) ∷ k) (m ∷ q)
nests_open {m} {n} {h} {j} {k} {q} a b f x = let y = f.ordered in let z = f.shut in nests_join (nests_one m (length a) h a b (omega arith) x (omega arith)) f (omega arith)

-- a part that is looked at from further off
pub nests_wide : {r m i j e h p : ℕ} {k : List Opener} {q : List ℕ} → NestsIn r m i j e k q → i ≤ h → p ≤ j → e ≤ p → NestsIn r m h p e k q
nests_wide {r} {m} {i} {j} {e} {h} {p} {k} {q} f x y z = record {
  less = f.less;
  ordered = let u = f.ordered in omega arith;
  shut = z;
  before = λ c u. f.before c (omega arith);
  after = λ c u v. f.after c (omega arith) v;
  closed = f.closed;
  bounded = f.bounded;
  along = along_map (λ o n (u, v, w). (omega arith, omega arith, w)) f.along;
}

-- a part after whose end all its openers are closed
pub nests_shut : {r m i j e h p d : ℕ} {k : List Opener} {q : List ℕ} → NestsIn r m i j e k q → i ≤ h → p ≤ e → d ≤ p → NestsIn r r h p d k q
nests_shut {r} {m} {i} {j} {e} {h} {p} {d} {k} {q} f x y z = record {
  less = omega arith;
  ordered = let u = f.ordered in let v = f.shut in omega arith;
  shut = z;
  before = λ c u. f.before c (omega arith);
  after = λ c u v. let w = f.closed c (omega arith) in omega arith;
  closed = λ c u. f.closed c (omega arith);
  bounded = f.bounded;
  along = let s = f.shut in along_map (λ o n (u, v, w). (omega arith, omega arith, w)) f.along;
}
