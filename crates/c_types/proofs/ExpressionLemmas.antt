-- Spans of trees, and the arguments of a call one by one.
use Rattle.std.proofs.Common.{◌≡◌, ℕ, suc, ◌+◌, ◌<◌, List, ◌∷◌, ◌++◌, get_or, length, drop, refl, sym, ap, ◌∙◌, add-one, drop-cons, Option, Vec, Global}
use Rattle.c_tree.specs.declared.place.Span.{Span}
use Rattle.c_tree.specs.declared.expr.Arg.{Arg}
use Rattle.c_tree.specs.declared.expr.Arg.TheVariants.{Value}
use Rattle.c_tree.specs.declared.expr.Expr.{Expr}
use Rattle.c_tree.specs.declared.expr.ExprNode.{ExprNode}
use Rattle.c_tree.specs.declared.expr.ExprNode.TheVariants.{Const, Name, Index', Call', Unary', Cast', Binary', Choice', Assign', Bump', Comma', Call}
use Rattle.c_tree.specs.Parts.{span_of}
use Rattle.c_tree.specs.Tree.{Args}
use Rattle.c_tree.specs.Views.{tree, node_tree, args_of, with_arg}
use Rattle.c_tree.proofs.ViewsLemmas.{node-Call}
use Rattle.c_types.specs.declared.fault.Fault.{Fault}
use Rattle.c_types.specs.declared.scope.Declaration.{Declaration}
use Rattle.c_types.specs.declared.scope.Entity.{Entity}
use Rattle.c_types.specs.declared.kinds.Wanted.{Wanted}
use Rattle.c_types.specs.Arguments.{converted, wanted, value_faults, call_faults}
use Rattle.c_types.specs.Expressions.{faults, args_faults}
use Rattle.c_types.specs.Kinds.{kind}
use Rattle.c_types.specs.Least.{least, earlier}
use Rattle.c_types.specs.Scopes.{denoted}
use Rattle.c_types.proofs.LeastLemmas.{earlier_assoc, least_append, joined}

pub span_of_node : (n : ExprNode) (s : Span) → span_of (node_tree n s) ≡ s
span_of_node (Const n word) s = refl
span_of_node (Name word slot) s = refl
span_of_node (Index' word slot _ e es) s = refl
span_of_node (Call' word _ args) s = refl
span_of_node (Unary' op _ e es) s = refl
span_of_node (Cast' ty _ e es) s = refl
span_of_node (Binary' op _ l ls _ r rs) s = refl
span_of_node (Choice' _ t ts _ a as_ _ b bs) s = refl
span_of_node (Assign' op _ l ls _ r rs) s = refl
span_of_node (Bump' before up _ e es) s = refl
span_of_node (Comma' _ l ls _ r rs) s = refl

-- the span of an expression's tree is its own
pub span_of_tree : (e : Expr) → span_of (tree e) ≡ e.span
span_of_tree e = span_of_node e.node e.span

module _ (ks : List Declaration) where
  -- one more argument was looked at
  pub args_more : (m : ℕ → Wanted) (args : List Arg) (i : ℕ) (x : Arg) (all before after now : Option Fault) → i < length args → x ≡ get_or args i x
      → least (args_faults ks m i (with_arg x (args_of (drop (suc i) args)))) ≡ earlier now (least (args_faults ks m (suc i) (args_of (drop (suc i) args))))
      → after ≡ earlier before now
      → all ≡ earlier before (least (args_faults ks m i (args_of (drop i args))))
      → all ≡ earlier after (least (args_faults ks m (i + 1) (args_of (drop (i + 1) args))))
  args_more m args i x all before after now lt is step joined so_far =
      let front : drop i args ≡ x ∷ drop (suc i) args = drop-cons args i x lt ∙ ap (λ z. z ∷ drop (suc i) args) (sym is) in
      let rest = least (args_faults ks m (suc i) (args_of (drop (suc i) args))) in
      rw add-one (so_far ∙ ap (λ (xs : List Arg). earlier before (least (args_faults ks m i (args_of xs)))) front ∙ ap (earlier before) step ∙ sym (earlier_assoc before now rest) ∙ ap (λ f. earlier f rest) (sym joined))

  -- the faults of a call are those of its name and its arguments
  pub faults_call : (e : Expr) (word : List ℕ) (args : Vec Arg Global) → e.node ≡ Call word args
      → least (faults ks (tree e)) ≡ earlier (least (call_faults (denoted ks word) (args_of args.items) e.span)) (least (args_faults ks (wanted (denoted ks word) (converted (args_of args.items))) 0 (args_of args.items)))
  faults_call e word args is =
      ap (λ (n : ExprNode). least (faults ks (node_tree n e.span))) is ∙ ap (λ t. least (faults ks t)) (node-Call word args e.span)
      ∙ least_append (call_faults (denoted ks word) (args_of args.items) e.span) (args_faults ks (wanted (denoted ks word) (converted (args_of args.items))) 0 (args_of args.items))

  -- the faults of an expression as an argument, and those of the arguments behind it
  pub value_step : (m : ℕ → Wanted) (i : ℕ) (rest : Args) (e : Expr) (w : Wanted) (own inner r : Option Fault) → w ≡ m i
      → own ≡ least (value_faults w (kind ks (tree e)) e.span) → inner ≡ least (faults ks (tree e)) → r ≡ earlier own inner
      → least (args_faults ks m i (with_arg (Value e) rest)) ≡ earlier r (least (args_faults ks m (suc i) rest))
  value_step m i rest e w own inner r is p q joined_is =
      least_append (value_faults (m i) (kind ks (tree e)) (span_of (tree e)) ++ faults ks (tree e)) (args_faults ks m (suc i) rest)
      ∙ ap (λ x. earlier x (least (args_faults ks m (suc i) rest)))
      (sym (joined (value_faults (m i) (kind ks (tree e)) (span_of (tree e))) (faults ks (tree e)) own inner r joined_is
      (p ∙ ap (λ v. least (value_faults v (kind ks (tree e)) e.span)) is ∙ ap (λ s. least (value_faults (m i) (kind ks (tree e)) s)) (sym (span_of_tree e))) q))

  -- the same, with what each of the two parts was found by
  pub call_joined : (e : Expr) (word : List ℕ) (args : Vec Arg Global) → e.node ≡ Call word args → (m : Option Entity) (xs ys : List Arg) (a b r : Option Fault)
      → m ≡ denoted ks word → xs ≡ args.items → ys ≡ args.items
      → a ≡ least (call_faults m (args_of xs) e.span) → b ≡ least (args_faults ks (wanted m (converted (args_of ys))) 0 (args_of ys)) → r ≡ earlier a b → r ≡ least (faults ks (tree e))
  call_joined e word args is m xs ys a b r entity xs_is ys_is a_is b_is r_is =
      let by_name : a ≡ least (call_faults (denoted ks word) (args_of args.items) e.span) =
      a_is ∙ ap (λ (n : Option Entity). least (call_faults n (args_of xs) e.span)) entity ∙ ap (λ (zs : List Arg). least (call_faults (denoted ks word) (args_of zs) e.span)) xs_is in
      let by_args : b ≡ least (args_faults ks (wanted (denoted ks word) (converted (args_of args.items))) 0 (args_of args.items)) =
      b_is ∙ ap (λ (n : Option Entity). least (args_faults ks (wanted n (converted (args_of ys))) 0 (args_of ys))) entity ∙ ap (λ (zs : List Arg). least (args_faults ks (wanted (denoted ks word) (converted (args_of zs))) 0 (args_of zs))) ys_is in
      r_is ∙ ap (λ (x : Option Fault). earlier x b) by_name ∙ ap (earlier (least (call_faults (denoted ks word) (args_of args.items) e.span))) by_args ∙ sym (faults_call e word args is)
