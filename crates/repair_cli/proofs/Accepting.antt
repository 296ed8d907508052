-- What a source states is the only thing that it states: its tokens, its tree and its first fault.
use Rattle.std.proofs.Common.{◌≡◌, ◌≢◌, ℕ, List, length, Ok, Err, refl, sym, ap, subst, ◌∙◌, arith}
use Rattle.c_tree.specs.Tree.{Outer}
use Rattle.c_lex.specs.Tokens.{Lexes}
use Rattle.c_lex.specs.declared.fault.LexFault.{LexFault}
use Rattle.c_lex.proofs.Cutting.{one_outcome}
use Rattle.c_grammar.specs.Grammar.{Tokens}
use Rattle.c_grammar.specs.Programs.{Derives}
use Rattle.c_grammar.specs.Judge.{Verdict, good, unexpected_at, too_deep_at, Judged}
use Rattle.c_grammar.proofs.TooDeep.{passes_deep}
use Rattle.c_grammar.proofs.Verdicts.{one, judge_is}
use Rattle.c_parse.specs.Results.{place_of, IsFirstFault}
use Rattle.c_parse.specs.declared.fault.ParseFault.{ParseFault}
use Rattle.c_parse.specs.declared.fault.ParseFault.TheVariants as parse
use Rattle.c_types.specs.declared.fault.TypeFault.{TypeFault}
use Rattle.c_types.specs.declared.fault.TypeFault.TheVariants as kinds
use Rattle.c_types.specs.Least.{Causes as CausedBy}
use Rattle.c_types.specs.Programs.{program_faults}
use Rattle.c_types.specs.Slots.{resolved}
use Rattle.c_types.proofs.OneFirst as kind
use Rattle.repair_job.specs.Patches.{HasFewLocations}
use Rattle.repair_cli.specs.Accepted.{IsRead, IsWellTyped, IsProgram}
use Rattle.repair_cli.specs.Faults.{IsFault, HasManyLocations, fault_message}
use Rattle.repair_cli.specs.Laws.{OneProgram, OneFault, OneRefusal, NeverBoth}
use Rattle.repair_cli.specs.declared.fault.ProgramFault.{ProgramFault}
use Rattle.repair_cli.specs.declared.fault.ProgramFault.TheVariants.{Lex, Parse, Kinds, TooManyLocations}

-- the tokens of a source are the only ones
pub one_cut : (bytes : List ℕ) (ts us : Tokens) → Lexes bytes (Ok ts) → Lexes bytes (Ok us) → ts ≡ us
one_cut bytes ts us a b = let e = one_outcome bytes (Ok ts) (Ok us) a b in cc

-- a source with a lexical fault has no tokens
pub no_tokens : (bytes : List ℕ) (ts : Tokens) (f : LexFault) → Lexes bytes (Ok ts) → Lexes bytes (Err f) → ⊥
no_tokens bytes ts f a b = let e = one_outcome bytes (Ok ts) (Err f) a b in absurd (cc)

-- the tree of a source is the only one
pub one_tree : (bytes : List ℕ) (t u : List Outer) → IsRead bytes t → IsRead bytes u → t ≡ u
one_tree bytes t u a b =
    let same = one_cut bytes b.tokens a.tokens b.cut.cut a.cut.cut in
    one 64 64 a.tokens t u a.derived (subst (λ ts. Derives 64 ts u) same b.derived)

-- a source states one program at most
pub one_program : OneProgram
one_program bytes p q a b = a.runnable.is_resolved ∙ ap resolved (one_tree bytes a.tree b.tree a.read b.read) ∙ sym b.runnable.is_resolved

-- ---- one fault

-- what is judged of one list of tokens is one verdict
one_verdict : (ts : Tokens) (v w : Verdict) → Judged 64 ts v → Judged 64 ts w → v ≡ w
one_verdict ts v w x y = sym (judge_is 64 ts v x) ∙ judge_is 64 ts w y

-- the first fault of a list of tokens is one
one_cause : (end : ℕ) (ts : Tokens) (f g : ParseFault) → f ≢ parse.NoMemory → g ≢ parse.NoMemory → IsFirstFault end ts f → IsFirstFault end ts g → f ≡ g
one_cause end ts (parse.Unexpected m) (parse.Unexpected n) a b x y =
    let e = one_verdict ts (unexpected_at x.0) (unexpected_at y.0) x.2 y.2 in
    let r : x.0 ≡ y.0 = cc in
    ap (λ k. parse.Unexpected k) (x.1 ∙ ap (place_of end) r ∙ sym y.1)
one_cause end ts (parse.Unexpected m) (parse.TooDeep n) a b x y =
    let e = one_verdict ts (unexpected_at x.0) (too_deep_at y.0) x.2 (passes_deep 64 ts y.0 y.2) in absurd (cc)
one_cause end ts (parse.TooDeep m) (parse.Unexpected n) a b x y =
    let e = one_verdict ts (too_deep_at x.0) (unexpected_at y.0) (passes_deep 64 ts x.0 x.2) y.2 in absurd (cc)
one_cause end ts (parse.TooDeep m) (parse.TooDeep n) a b x y =
    let e = one_verdict ts (too_deep_at x.0) (too_deep_at y.0) (passes_deep 64 ts x.0 x.2) (passes_deep 64 ts y.0 y.2) in
    let r : x.0 ≡ y.0 = cc in
    ap (λ k. parse.TooDeep k) (x.1 ∙ ap (place_of end) r ∙ sym y.1)
one_cause end ts parse.NoMemory g a b x y = absurd (a refl)
one_cause end ts f parse.NoMemory a b x y = absurd (b refl)

-- a source that has a tree has no fault in its tokens
no_cause : (end : ℕ) (ts : Tokens) (tree : List Outer) (f : ParseFault) → f ≢ parse.NoMemory → Derives 64 ts tree → IsFirstFault end ts f → ⊥
no_cause end ts tree (parse.Unexpected n) a d x = let e = one_verdict ts (good tree) (unexpected_at x.0) d x.2 in absurd (cc)
no_cause end ts tree (parse.TooDeep n) a d x = let e = one_verdict ts (good tree) (too_deep_at x.0) d (passes_deep 64 ts x.0 x.2) in absurd (cc)
no_cause end ts tree parse.NoMemory a d x = a refl

-- the causes of a tree's faults are the same for trees that are the same
same_causes : (end : ℕ) (f : TypeFault) (t u : List Outer) → t ≡ u
    → CausedBy f (program_faults t end) → CausedBy f (program_faults u end)
same_causes end f t u e = subst (λ x. CausedBy f (program_faults x end)) e

-- a well-typed tree causes no fault of kinds
no_kind : (end : ℕ) (tree : List Outer) (f : TypeFault) → f ≢ kinds.NoMemory → IsWellTyped end tree
    → CausedBy f (program_faults tree end) → ⊥
no_kind end tree f n typed x = kind.no_cause f n (subst (CausedBy f) typed x)

-- a source that has a tree has no fault but of the tree's kinds and of its size
data OfTree (bytes : List ℕ) (tree : List Outer) : ProgramFault → Type 0 where
  kinds_of : (f : TypeFault) → f ≢ kinds.NoMemory → CausedBy f (program_faults tree (length bytes))
      → OfTree bytes tree (Kinds f)
  size_of : (n : ℕ) → IsWellTyped (length bytes) tree → HasManyLocations n (resolved tree)
      → OfTree bytes tree (TooManyLocations n)

tree_fault : (bytes : List ℕ) (tree : List Outer) (f : ProgramFault) (r : IsRead bytes tree) → IsFault bytes f → OfTree bytes tree f
tree_fault bytes tree _ r (IsFault.too_long a) = let s = r.cut.short in absurd (omega (arith, a, s))
tree_fault bytes tree _ r (IsFault.of_text f n s a) = absurd (no_tokens bytes r.tokens f r.cut.cut a)
tree_fault bytes tree _ r (IsFault.of_tokens f ts n c x) =
    let same = one_cut bytes r.tokens ts r.cut.cut c.cut in
    absurd (no_cause (length bytes) ts tree f n (subst (λ us. Derives 64 us tree) same r.derived) x)
tree_fault bytes tree _ r (IsFault.of_kinds f t n read x) =
    kinds_of f n (same_causes (length bytes) f t tree (one_tree bytes t tree read r) x)
tree_fault bytes tree _ r (IsFault.of_size n t read typed many) =
    let same = one_tree bytes t tree read r in
    size_of n (subst (IsWellTyped (length bytes)) same typed)
    (subst (λ u. HasManyLocations n (resolved u)) same many)

-- two faults of one tree are one
one_of_tree : (bytes : List ℕ) (tree : List Outer) (f g : ProgramFault) → OfTree bytes tree f → OfTree bytes tree g → f ≡ g
one_of_tree bytes tree _ _ (kinds_of f n x) (kinds_of g m y) =
    ap (λ h. Kinds h) (kind.one_cause (program_faults tree (length bytes)) f g n m x y)
one_of_tree bytes tree _ _ (kinds_of f n x) (size_of k typed many) = absurd (no_kind (length bytes) tree f n typed x)
one_of_tree bytes tree _ _ (size_of k typed many) (kinds_of f n x) = absurd (no_kind (length bytes) tree f n typed x)
one_of_tree bytes tree _ _ (size_of k a b) (size_of l c d) = ap (λ h. TooManyLocations h) (b.0 ∙ sym d.0)

-- the first fault of a source is one, where one of the two is of its tree
one_with_tree : (bytes : List ℕ) (tree : List Outer) (f g : ProgramFault) → IsRead bytes tree → IsFault bytes f → IsFault bytes g → f ≡ g
one_with_tree bytes tree f g r a b = one_of_tree bytes tree f g (tree_fault bytes tree f r a) (tree_fault bytes tree g r b)

-- the first fault of a source is one
pub one_fault : OneFault
one_fault bytes f _ a (IsFault.of_kinds g t n r x) = one_with_tree bytes t f (Kinds g) r a (IsFault.of_kinds g t n r x)
one_fault bytes f _ a (IsFault.of_size n t r x y) = one_with_tree bytes t f (TooManyLocations n) r a (IsFault.of_size n t r x y)
one_fault bytes _ g (IsFault.of_kinds f t n r x) b = one_with_tree bytes t (Kinds f) g r (IsFault.of_kinds f t n r x) b
one_fault bytes _ g (IsFault.of_size n t r x y) b = one_with_tree bytes t (TooManyLocations n) g r (IsFault.of_size n t r x y) b
one_fault bytes _ _ (IsFault.too_long a) (IsFault.too_long b) = refl
one_fault bytes _ _ (IsFault.too_long a) (IsFault.of_text g n s b) = absurd (omega (arith, a, s))
one_fault bytes _ _ (IsFault.too_long a) (IsFault.of_tokens g ts n c y) = let s = c.short in absurd (omega (arith, a, s))
one_fault bytes _ _ (IsFault.of_text f n s a) (IsFault.too_long b) = absurd (omega (arith, b, s))
one_fault bytes _ _ (IsFault.of_text f n s a) (IsFault.of_text g m z b) =
    let same = one_outcome bytes (Err f) (Err g) a b in
    let r : f ≡ g = cc in
    ap (λ h. Lex h) r
one_fault bytes _ _ (IsFault.of_text f n s a) (IsFault.of_tokens g ts m c y) = absurd (no_tokens bytes ts f c.cut a)
one_fault bytes _ _ (IsFault.of_tokens f ts n c x) (IsFault.too_long b) = let s = c.short in absurd (omega (arith, b, s))
one_fault bytes _ _ (IsFault.of_tokens f ts n c x) (IsFault.of_text g m s b) = absurd (no_tokens bytes ts g c.cut b)
one_fault bytes _ _ (IsFault.of_tokens f ts n c x) (IsFault.of_tokens g us m d y) =
    let same = one_cut bytes us ts d.cut c.cut in
    ap (λ h. Parse h) (one_cause (length bytes) ts f g n m x (subst (λ vs. IsFirstFault (length bytes) vs g) same y))

-- a source is refused with one message at most
pub one_refusal : OneRefusal
one_refusal name bytes t u a b =
    a.message ∙ ap (fault_message name bytes) (one_fault bytes a.fault b.fault a.is_first b.is_first) ∙ sym b.message

-- a source that states a program has no fault of its tree
no_fault : (bytes : List ℕ) (p : List Outer) (f : ProgramFault) (i : IsProgram bytes p) → OfTree bytes i.tree f → ⊥
no_fault bytes p _ i (kinds_of f n x) = no_kind (length bytes) i.tree f n i.runnable.typed x
no_fault bytes p _ i (size_of n typed many) =
    let few = subst HasFewLocations i.runnable.is_resolved i.runnable.few in
    absurd (omega (arith, few, many.1))

-- a source that states a program has no fault
faultless : (bytes : List ℕ) (p : List Outer) (f : ProgramFault) → IsProgram bytes p → IsFault bytes f → ⊥
faultless bytes p f i x = no_fault bytes p f i (tree_fault bytes i.tree f i.read x)

-- a source that states a program isn't refused
pub never_both : NeverBoth
never_both name bytes t p i r = faultless bytes p r.fault i r.is_first
