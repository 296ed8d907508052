-- An edit at a location of a program without a fault makes a program without a fault, where its atoms denote variables in the
-- scope that the walk for faults hands to the location.
use Rattle.std.proofs.Common.{◌≡◌, ℕ, Bool, List, [], ◌∷◌, ◌++◌, refl, sym, ap, ap₂, ◌∙◌}
use Rattle.c_tree.specs.declared.place.Loc.{Loc}
use Rattle.c_tree.specs.declared.stmt.Ty.{Ty}
use Rattle.c_tree.specs.Parts.{span_of_code}
use Rattle.c_tree.specs.Tree.{Tree, Code, block, if_then, next, done, Outer}
use Rattle.c_types.specs.declared.fault.Fault.{Fault}
use Rattle.c_types.specs.declared.scope.Declaration.{Declaration}
use Rattle.c_types.specs.Expressions.{as_number, faults}
use Rattle.c_types.specs.Programs.{program_faults}
use Rattle.c_types.specs.Statements.{code_faults}
use Rattle.c_location.specs.Rewrites.{Rewrite, rewritten}
use Rattle.schemas.specs.declared.atom.Bound.{Bound}
use Rattle.schemas.specs.declared.edit.Edit.{Edit}
use Rattle.schemas.specs.declared.edit.Edit.TheVariants.{Op, Leaf, Plus, Side, Negate, Take, Narrow, Widen, Guard}
use Rattle.schemas.specs.Edits.{bound_tree, edited}
use Rattle.std.specs.Prelude.{Option}
use Rattle.patch_space.proofs.NewTrees.{Sees, Denotes, edited_number, bound_number}
use Rattle.rewrite_laws.proofs.NumbersThere.{IsNumber, And, in_program}
use Rattle.rewrite_laws.proofs.SeesThere.{InProgram}
use Rattle.rewrite_laws.proofs.ThereFaults.{KeepsThere, program-kept}

-- an `if` with the bound round a statement, in a block
abbrev pub under : Bound → Code → Code
under b c = block (next (if_then (bound_tree b (span_of_code c)) c (span_of_code c)) done) (span_of_code c)

-- what an edit makes of a statement
abbrev pub edited_code : Edit → Code → Code
edited_code (Guard b) c = under b c
edited_code _ c = c

-- what an edit makes of a part
abbrev pub rewrite_by : Edit → Rewrite
rewrite_by edit = record { tree = λ e. edited e edit; code = edited_code edit }

-- the declarations in scope show an edit's atoms; nothing is asked of the expression there
abbrev pub SeesFor : Edit → List Declaration → Tree → Type 0
SeesFor edit ds e = Sees ds edit

-- what is added behind nothing
nothing_after : (xs : List Fault) → xs ++ [] ≡ xs
nothing_after [] = refl
nothing_after (x ∷ xs) = ap (λ z. x ∷ z) (nothing_after xs)

under_faults : (ret : Option Ty) (ds : List Declaration) (in_loop : Bool) (b : Bound) (c : Code) → Denotes ds b.left → Denotes ds b.right
    → code_faults ret ds in_loop (under b c) ≡ code_faults ret ds in_loop c
under_faults ret ds in_loop b c p q =
    let test = bound_tree b (span_of_code c) in
    let n : IsNumber ds test = bound_number ds b (span_of_code c) p q in
    let none : as_number ds test ++ faults ds test ≡ [] = ap₂ (λ (xs ys : List Fault). xs ++ ys) n.number n.faultless in
    ap (λ (xs : List Fault). (xs ++ code_faults ret ds in_loop c) ++ []) none ∙ nothing_after (code_faults ret ds in_loop c)

code_kept : (edit : Edit) (ret : Option Ty) (ds : List Declaration) (in_loop : Bool) (c : Code) → Sees ds edit
    → code_faults ret ds in_loop (edited_code edit c) ≡ code_faults ret ds in_loop c
code_kept (Op op) ret ds in_loop c sees = refl
code_kept (Leaf k a) ret ds in_loop c sees = refl
code_kept (Plus up) ret ds in_loop c sees = refl
code_kept (Side up) ret ds in_loop c sees = refl
code_kept Negate ret ds in_loop c sees = refl
code_kept (Take a) ret ds in_loop c sees = refl
code_kept (Narrow b) ret ds in_loop c sees = refl
code_kept (Widen b) ret ds in_loop c sees = refl
code_kept (Guard b) ret ds in_loop c sees = under_faults ret ds in_loop b c sees.0 sees.1

pub keeps : (edit : Edit) → KeepsThere (And (SeesFor edit)) (λ ds. Sees ds edit) (rewrite_by edit)
keeps edit = record {
  number = λ ds e h. (edited_number ds e edit h.1 h.0).number ∙ sym h.0.number;
  faults = λ ds e h. (edited_number ds e edit h.1 h.0).faultless ∙ sym h.0.faultless;
  code = λ ret ds in_loop c h. code_kept edit ret ds in_loop c h;
}

-- the program that an edit makes has no fault
pub edited_faultless : (p : List Outer) (l : Loc) (edit : Edit) → ((end : ℕ) → program_faults p end ≡ [])
    → InProgram l (SeesFor edit) (λ ds. Sees ds edit) p → (end : ℕ) → program_faults (rewritten l (rewrite_by edit) p) end ≡ []
edited_faultless p l edit faultless sees end =
    let numbers : InProgram l (And (SeesFor edit)) (λ ds. Sees ds edit) p = in_program l (SeesFor edit) (λ ds. Sees ds edit) p end (faultless end) sees in
    program-kept l (rewrite_by edit) (And (SeesFor edit)) (λ ds. Sees ds edit) (keeps edit) p end numbers ∙ faultless end
