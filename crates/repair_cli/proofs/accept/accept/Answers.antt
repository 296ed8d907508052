use Rattle.std.proofs.Common.{◌≡◌, ◌≢◌, List, ℕ, Ok, sym, subst}
use Rattle.c_tree.specs.Views.{program}
use Rattle.c_lex.specs.Tokens.{Lexes}
use Rattle.c_lex.specs.declared.fault.LexFault.TheVariants as lex
use Rattle.c_grammar.specs.Grammar.{Tokens}
use Rattle.c_location.specs.Faults.{Causes}
use Rattle.c_location.specs.Locations.{locations}
use Rattle.c_location.specs.declared.fault.LocFault.{LocFault}
use Rattle.c_parse.specs.declared.fault.ParseFault.TheVariants as parse
use Rattle.c_types.specs.Shown.{tree_of}
use Rattle.c_types.specs.Slots.{resolved}
use Rattle.c_types.specs.declared.fault.TypeFault.TheVariants as kinds
use Rattle.repair_cli.specs.Accepted.{IsShort, IsCut, IsRead}
use Rattle.repair_cli.specs.Faults.{IsFault, HasManyLocations}
use Rattle.repair_cli.specs.declared.fault.ProgramFault.{ProgramFault}
use Rattle.repair_cli.proofs.accept.accept.Goals as goal

-- a source has the tokens that were lent
cut : (bytes : List ℕ) (ts us : Tokens) → IsShort bytes → Lexes bytes (Ok ts) → us ≡ ts → IsCut bytes us
cut bytes ts us short h e = record { short = short; cut = subst (λ (x : Tokens). Lexes bytes (Ok x)) (sym e) h }

pub returns-in-Err-clause-judged : goal.returns-in-Err-clause-judged
returns-in-Err-clause-judged c =
    λ h.
    let n : c.in-Err.fault ≢ lex.NoMemory = λ e. h (c.of_text.ensures.none e) in
    subst (λ (f : ProgramFault). IsFault c.args.bytes.now f) (sym (c.of_text.ensures.some n))
    (IsFault.of_text c.in-Err.fault n c.requires (c.in-Err.ensures.err n))

pub returns-in-Err-parse-clause-judged : goal.returns-in-Err-parse-clause-judged
returns-in-Err-parse-clause-judged c =
    λ h.
    let n : c.in-Err-parse.fault ≢ parse.NoMemory = λ e. h (c.of_tokens.ensures.none e) in
    subst (λ (f : ProgramFault). IsFault c.args.bytes.now f) (sym (c.of_tokens.ensures.some n))
    (IsFault.of_tokens c.in-Err-parse.fault c.deref.result.now n (cut _ _ _ c.requires c.in-Ok.ensures.ok c.deref.ensures.value) c.in-Err-parse.ensures.refused)

pub returns-in-Err-check-clause-judged : goal.returns-in-Err-check-clause-judged
returns-in-Err-check-clause-judged c =
    λ h.
    let n : c.in-Err-check.fault ≢ kinds.NoMemory = λ e. h (c.of_kinds.ensures.none e) in
    let read : IsRead c.args.bytes.now (program c.in-Ok-parse.tree) =
    record { tokens = c.deref.result.now; cut = cut _ _ _ c.requires c.in-Ok.ensures.ok c.deref.ensures.value; derived = c.in-Ok-parse.ensures.derived } in
    subst (λ (f : ProgramFault). IsFault c.args.bytes.now f) (sym (c.of_kinds.ensures.some n))
    (IsFault.of_kinds c.in-Err-check.fault (program c.in-Ok-parse.tree) n read c.in-Err-check.ensures.refused)

pub returns-in-Err-TooMany-clause-judged : goal.returns-in-Err-TooMany-clause-judged
returns-in-Err-TooMany-clause-judged c =
    λ h.
    let tree = program c.in-Ok-parse.tree in
    let own = tree_of c.in-Ok-check.program in
    let count = c.in-Err-TooMany.count in
    let read : IsRead c.args.bytes.now tree =
    record { tokens = c.deref.result.now; cut = cut _ _ _ c.requires c.in-Ok.ensures.ok c.deref.ensures.value; derived = c.in-Ok-parse.ensures.derived } in
    let many : HasManyLocations count own =
    subst (λ (f : LocFault). Causes f (locations own)) c.in-Err-TooMany.field-0-is c.in-Err-TooMany.ensures.refused in
    let of_tree : HasManyLocations count (resolved tree) = subst (HasManyLocations count) c.in-Ok-check.ensures.resolved many in
    IsFault.of_size count tree read c.in-Ok-check.ensures.accepted of_tree

pub returns-in-Ok-few_locations-clause-judged : goal.returns-in-Ok-few_locations-clause-judged
returns-in-Ok-few_locations-clause-judged c =
    let tree = program c.in-Ok-parse.tree in
    let read : IsRead c.args.bytes.now tree =
    record { tokens = c.deref.result.now; cut = cut _ _ _ c.requires c.in-Ok.ensures.ok c.deref.ensures.value; derived = c.in-Ok-parse.ensures.derived } in
    record {
      tree = tree;
      read = read;
      runnable = record {
        typed = c.in-Ok-check.ensures.accepted;
        is_resolved = c.in-Ok-check.ensures.resolved;
        few = c.in-Ok-few_locations.ensures.few;
      };
    }
