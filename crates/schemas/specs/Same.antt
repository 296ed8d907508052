-- Whether two expressions are the same but for spans, slots and the spelling of constants, as a test that computes.
use Rattle.std.specs.Prelude.{ℕ, Bool, true, false, not, ◌&&◌, nat_eq, if◌then◌else◌, Option, Some, None}
use Rattle.std.specs.Ordering.{int_eq}
use Rattle.std.specs.Str.{bytes_eq}
use Rattle.c_tree.specs.declared.expr.BinOp.{BinOp}
use Rattle.c_tree.specs.declared.expr.BinOp.TheVariants.{Mul, Div, Rem, Add, Sub, Shl, Shr, Lt, Le, Gt, Ge, Eq, Ne, BitAnd, BitXor, BitOr, Both, Either}
use Rattle.c_tree.specs.declared.expr.UnOp.{UnOp}
use Rattle.c_tree.specs.declared.expr.UnOp.TheVariants.{Plus, Minus, Flip, Compl}
use Rattle.c_tree.specs.declared.stmt.Ty.{Ty}
use Rattle.c_tree.specs.declared.stmt.Ty.TheVariants.{Int, Char}
use Rattle.c_tree.specs.Tree.{Tree, constant, name, index, call, unary, cast, binary, choice, assign, bump, comma, hole, hole_after, Args, no_args, value, format, address}

-- a number for each operator between two operands
abbrev pub number_of : BinOp → ℕ
number_of Mul = 0
number_of Div = 1
number_of Rem = 2
number_of Add = 3
number_of Sub = 4
number_of Shl = 5
number_of Shr = 6
number_of Lt = 7
number_of Le = 8
number_of Gt = 9
number_of Ge = 10
number_of Eq = 11
number_of Ne = 12
number_of BitAnd = 13
number_of BitXor = 14
number_of BitOr = 15
number_of Both = 16
number_of Either = 17

-- whether two operators are the same
abbrev pub same_operator : BinOp → BinOp → Bool
same_operator f g = nat_eq (number_of f) (number_of g)

-- the same of the operators of assignments
abbrev pub same_assigned : Option BinOp → Option BinOp → Bool
same_assigned None None = true
same_assigned (Some f) (Some g) = same_operator f g
same_assigned _ _ = false

-- the same of prefix operators
abbrev pub same_sign : UnOp → UnOp → Bool
same_sign Plus Plus = true
same_sign Minus Minus = true
same_sign Flip Flip = true
same_sign Compl Compl = true
same_sign _ _ = false

-- the same of types
abbrev pub same_type : Ty → Ty → Bool
same_type Int Int = true
same_type Char Char = true
same_type _ _ = false

-- the same of the two answers to a question
abbrev pub same_answer : Bool → Bool → Bool
same_answer a b = if a then b else not b

-- the same of expressions
abbrev mutual
  pub same : Tree → Tree → Bool
  same (constant n word s) (constant m other t) = int_eq n m
  same (name word slot s) (name other slot' t) = bytes_eq word other
  same (index word slot e s) (index other slot' f t) = bytes_eq word other && same e f
  same (call word x s) (call other y t) = bytes_eq word other && same_args x y
  same (unary op e s) (unary op' f t) = same_sign op op' && same e f
  same (cast ty e s) (cast ty' f t) = same_type ty ty' && same e f
  same (binary op a b s) (binary op' c d t) = same_operator op op' && (same a c && same b d)
  same (choice a b c s) (choice d e f t) = same a d && (same b e && same c f)
  same (assign op a b s) (assign op' c d t) = same_assigned op op' && (same a c && same b d)
  same (bump before up e s) (bump before' up' f t) =
      same_answer before before' && (same_answer up up' && same e f)
  same (comma a b s) (comma c d t) = same a c && same b d
  same hole hole = true
  same (hole_after e) (hole_after f) = same e f
  same _ _ = false

  -- the same of arguments
  pub same_args : Args → Args → Bool
  same_args no_args no_args = true
  same_args (value e x) (value f y) = same e f && same_args x y
  same_args (format text s x) (format other t y) = bytes_eq text other && same_args x y
  same_args (address e x) (address f y) = same e f && same_args x y
  same_args _ _ = false
