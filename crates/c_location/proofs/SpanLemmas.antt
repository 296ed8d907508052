-- The text that a part covers is the span of its tree.
use Rattle.std.proofs.Common.{◌≡◌, refl}
use Rattle.c_tree.specs.declared.place.Span.{Span}
use Rattle.c_tree.specs.declared.expr.Expr.{Expr}
use Rattle.c_tree.specs.declared.expr.ExprNode.{ExprNode}
use Rattle.c_tree.specs.declared.expr.ExprNode.TheVariants.{Const, Name, Index', Call', Unary', Cast', Binary', Choice', Assign', Bump', Comma'}
use Rattle.c_tree.specs.declared.stmt.Stmt.{Stmt}
use Rattle.c_tree.specs.declared.stmt.StmtNode.{StmtNode}
use Rattle.c_tree.specs.declared.stmt.StmtNode.TheVariants.{Empty, Act, Block', If', While', Do', For', Return, Break, Continue}
use Rattle.c_tree.specs.declared.stmt.Item.TheBlock.{None', Some'}
use Rattle.c_tree.specs.Parts.{span_of, span_of_code}
use Rattle.c_tree.specs.Views.{tree, node_tree, code, node_code}

-- an expression covers its span, whatever stands there
span_of-node : (n : ExprNode) (s : Span) → span_of (node_tree n s) ≡ s
span_of-node (Const v word) s = refl
span_of-node (Name word slot) s = refl
span_of-node (Index' word slot _ e es) s = refl
span_of-node (Call' word _ args) s = refl
span_of-node (Unary' op _ e es) s = refl
span_of-node (Cast' ty _ e es) s = refl
span_of-node (Binary' op _ l ls _ r rs) s = refl
span_of-node (Choice' _ t ts _ a as_ _ b bs) s = refl
span_of-node (Assign' op _ l ls _ r rs) s = refl
span_of-node (Bump' before up _ e es) s = refl
span_of-node (Comma' _ l ls _ r rs) s = refl

-- an expression covers its span
pub span_of_tree : (e : Expr) → span_of (tree e) ≡ e.span
span_of_tree e = span_of-node e.node e.span

-- a statement covers its span, whatever stands there
pub span_of-kind : (n : StmtNode) (s : Span) → span_of_code (node_code n s) ≡ s
span_of-kind Empty s = refl
span_of-kind (Act e) s = refl
span_of-kind (Block' _ items) s = refl
span_of-kind (If' test _ y ys None') s = refl
span_of-kind (If' test _ y ys (Some' _ n ns)) s = refl
span_of-kind (While' test _ b bs) s = refl
span_of-kind (Do' _ b bs test) s = refl
span_of-kind (For' init test step _ b bs) s = refl
span_of-kind (Return e) s = refl
span_of-kind Break s = refl
span_of-kind Continue s = refl

-- a statement covers its span
pub span_of_statement : (st : Stmt) → span_of_code (code st) ≡ st.span
span_of_statement st = span_of-kind st.node st.span

pub ruleset span_steps = (span_of_tree, span_of-kind)
