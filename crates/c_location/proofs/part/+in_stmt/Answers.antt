use Rattle.std.proofs.Common.{List, [], ◌∷◌, ◌++◌, ap, ◌∙◌, sym}
use Rattle.c_tree.specs.declared.stmt.Item.{Item}
use Rattle.c_tree.specs.declared.stmt.Stmt.{Stmt}
use Rattle.c_tree.specs.declared.stmt.StmtNode.{StmtNode}
use Rattle.c_tree.specs.declared.stmt.StmtNode.TheVariants.{If}
use Rattle.c_tree.specs.Views.{tree, tree_option, code, node_code, body_of}
use Rattle.c_location.specs.Locations.{guard, in_tree, in_condition, in_value, in_code, in_body}
use Rattle.c_location.specs.Shown.{found_at}
use Rattle.c_location.proofs.PartLemmas.{found_at-Block, either-found}
use Rattle.c_location.proofs.part.+in_stmt.Goals as goal

pub in_stmt-returns-in-Block : goal.in_stmt-returns-in-Block
in_stmt-returns-in-Block t c =
    c.in_items.ensures ∙ ap (λ (items : List Item). found_at c.args.l.now (in_body (body_of items))) c.deref.ensures.value ∙ sym (found_at-Block c.args.l.now c.args.st.now c.in-Block.items c.in-Block.is)

pub in_stmt-returns-in-Act : goal.in_stmt-returns-in-Act
in_stmt-returns-in-Act t c =
    either-found c.args.l.now (guard (code c.args.st.now) ∷ []) (in_tree (tree c.in-Act.e)) c.in_guard.result c.in_expr.result c.or.result c.or.ensures c.in_guard.ensures c.in_expr.ensures
    ∙ ap (λ (n : StmtNode). found_at c.args.l.now (guard (node_code n c.args.st.now.span) ∷ in_tree (tree c.in-Act.e))) c.in-Act.is
    ∙ sym (ap (λ (n : StmtNode). found_at c.args.l.now (in_code (node_code n c.args.st.now.span))) c.in-Act.is)

pub in_stmt-returns-in-Return : goal.in_stmt-returns-in-Return
in_stmt-returns-in-Return t c =
    either-found c.args.l.now (guard (code c.args.st.now) ∷ []) (in_value (tree_option c.in-Return.value)) c.in_guard-in-Return.result c.in_value.result c.or-in-Return.result c.or-in-Return.ensures c.in_guard-in-Return.ensures c.in_value.ensures
    ∙ ap (λ (n : StmtNode). found_at c.args.l.now (guard (node_code n c.args.st.now.span) ∷ in_value (tree_option c.in-Return.value))) c.in-Return.is
    ∙ sym (ap (λ (n : StmtNode). found_at c.args.l.now (in_code (node_code n c.args.st.now.span))) c.in-Return.is)

pub in_stmt-returns-in-While : goal.in_stmt-returns-in-While
in_stmt-returns-in-While t c =
    either-found c.args.l.now (in_condition (tree c.in-While.test)) (in_code (code c.in-While.body.value)) c.in_condition-in-While.result c.in_stmt-in-While.result c.or-in-While.result c.or-in-While.ensures c.in_condition-in-While.ensures (c.in_stmt-in-While.ensures ∙ ap (λ (s : Stmt). found_at c.args.l.now (in_code (code s))) c.deref-in-While.ensures)
    ∙ sym (ap (λ (n : StmtNode). found_at c.args.l.now (in_code (node_code n c.args.st.now.span))) c.in-While.is)

pub in_stmt-returns-in-None : goal.in_stmt-returns-in-None
in_stmt-returns-in-None t c =
    either-found c.args.l.now (in_condition (tree c.in-If.test)) (in_code (code c.in-If.yes.value)) c.in_condition.result c.in_stmt.result c.or-found.result c.or-found.ensures c.in_condition.ensures (c.in_stmt.ensures ∙ ap (λ (s : Stmt). found_at c.args.l.now (in_code (code s))) c.deref-in-If.ensures)
    ∙ sym (ap (λ (n : StmtNode). found_at c.args.l.now (in_code (node_code n c.args.st.now.span))) (c.in-If.is ∙ ap (If c.in-If.test c.in-If.yes) c.in-None.is))

pub in_stmt-returns-in-Some : goal.in_stmt-returns-in-Some
in_stmt-returns-in-Some t c =
    either-found c.args.l.now (in_condition (tree c.in-If.test) ++ in_code (code c.in-If.yes.value)) (in_code (code c.in-Some.no.value)) c.or-found.result c.in_stmt-in-Some.result c.or-in-Some.result c.or-in-Some.ensures
    (either-found c.args.l.now (in_condition (tree c.in-If.test)) (in_code (code c.in-If.yes.value)) c.in_condition.result c.in_stmt.result c.or-found.result c.or-found.ensures c.in_condition.ensures (c.in_stmt.ensures ∙ ap (λ (s : Stmt). found_at c.args.l.now (in_code (code s))) c.deref-in-If.ensures))
    (c.in_stmt-in-Some.ensures ∙ ap (λ (s : Stmt). found_at c.args.l.now (in_code (code s))) c.deref-in-Some.ensures)
    ∙ sym (ap (λ (n : StmtNode). found_at c.args.l.now (in_code (node_code n c.args.st.now.span))) (c.in-If.is ∙ ap (If c.in-If.test c.in-If.yes) c.in-Some.is))
