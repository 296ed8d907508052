-- The parts that aren't constant in a call.
use Rattle.std.proofs.Common.{◌≡◌, List, ℕ, ap, ◌∙◌, Vec, Global}
use Rattle.c_tree.specs.declared.expr.Arg.{Arg}
use Rattle.c_tree.specs.declared.expr.Expr.{Expr}
use Rattle.c_tree.specs.declared.expr.ExprNode.{ExprNode}
use Rattle.c_tree.specs.declared.expr.ExprNode.TheVariants.{Call}
use Rattle.c_tree.specs.Views.{tree, node_tree, args_of}
use Rattle.c_tree.proofs.ViewsLemmas.{node-Call}
use Rattle.c_types.specs.declared.fault.FaultKind.TheVariants.{NotConstant}
use Rattle.c_types.specs.Constants.{not_constant, not_constant_args}
use Rattle.c_types.specs.Least.{fault, least, earlier}
use Rattle.c_types.proofs.LeastLemmas.{least_append}

pub not_constant_call : (e : Expr) (word : List ℕ) (args : Vec Arg Global) → e.node ≡ Call word args
    → least (not_constant (tree e)) ≡ earlier (least (fault NotConstant e.span)) (least (not_constant_args (args_of args.items)))
not_constant_call e word args is =
    ap (λ (n : ExprNode). least (not_constant (node_tree n e.span))) is ∙ ap (λ t. least (not_constant t)) (node-Call word args e.span)
    ∙ least_append (fault NotConstant e.span) (not_constant_args (args_of args.items))
