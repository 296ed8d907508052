-- The arguments of a call in a list and in a tree.
use Rattle.std.proofs.Common.{◌≡◌, ℕ, suc, List, [], ◌∷◌, length, drop, refl, ap, Option, Some}
use Rattle.std.specs.List.{slice_get}
use Rattle.std.specs.Prelude.{◌&&◌, unwrap_or}
use Rattle.c_tree.specs.declared.place.Span.{Span}
use Rattle.c_tree.specs.declared.expr.Arg.{Arg}
use Rattle.c_tree.specs.declared.expr.Arg.TheVariants.{Value', Format, Address'}
use Rattle.c_tree.specs.Views.{args_of, with_arg}
use Rattle.c_types.specs.declared.fault.FaultKind.TheVariants.{WrongCount}
use Rattle.c_types.specs.Arguments.{args_count, converted, no_format, miscounts, formatted_faults}
use Rattle.c_types.specs.Formats.{conversions}
use Rattle.c_types.specs.Least.{fault_if}

-- there are as many arguments as the list has
pub count_args : (args : List Arg) → args_count (args_of args) ≡ length args
count_args [] = refl
count_args (Value' e s ∷ args) = ap suc (count_args args)
count_args (Format f s ∷ args) = ap suc (count_args args)
count_args (Address' e s ∷ args) = ap suc (count_args args)

-- the arguments after a format
pub formatted_first : (read : List ℕ → Option ℕ) (args : List Arg) (text : List ℕ) (t s : Span)
    → slice_get args 0 ≡ Some (Format text t)
    → formatted_faults read (args_of args) s
    ≡ fault_if (no_format (args_of (drop 1 args)) && miscounts (read text) (args_count (args_of (drop 1 args)))) WrongCount s
formatted_first read [] text t s is = cc
formatted_first read (x ∷ args) text t s is =
    let here : x ≡ Format text t = cc in
    ap (λ z. formatted_faults read (with_arg z (args_of args)) s) here

-- the conversions of a format that is the first argument
pub converted_first : (args : List Arg) (text : List ℕ) (t : Span) → slice_get args 0 ≡ Some (Format text t)
    → converted (args_of args) ≡ unwrap_or (conversions text) 0
converted_first [] text t is = cc
converted_first (x ∷ args) text t is =
    let here : x ≡ Format text t = cc in
    ap (λ z. converted (with_arg z (args_of args))) here
