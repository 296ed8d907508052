-- What holds of each element of a list, as a record, so that the list and what holds can be left for antt to find.
use Rattle.std.proofs.Common.{List, [], ◌∷◌, ◌++◌}
use Rattle.std.specs.List.{All}
use Rattle.std.proofs.lemmas.List.Elements.{All-nil, All-cons, All-head, All-tail, All-append, All-weaker}

pub record Every {A : Type 0} (P : A → Type 0) (xs : List A) : Type 0 where
  pub all : All P xs

module _ {A : Type 0} {P : A → Type 0} where
  pub nil : Every P []
  nil = record { all = All-nil P }

  pub cons : {x : A} {xs : List A} → P x → Every P xs → Every P (x ∷ xs)
  cons {x = x} {xs = xs} p h = record { all = All-cons P x xs p h.all }

  pub append : {xs ys : List A} → Every P xs → Every P ys → Every P (xs ++ ys)
  append {xs = xs} {ys = ys} h k = record { all = All-append P xs ys h.all k.all }

  pub head : {x : A} {xs : List A} → Every P (x ∷ xs) → P x
  head {x = x} {xs = xs} h = All-head P x xs h.all

  pub tail : {x : A} {xs : List A} → Every P (x ∷ xs) → Every P xs
  tail {x = x} {xs = xs} h = record { all = All-tail P x xs h.all }

  pub left : (xs ys : List A) → Every P (xs ++ ys) → Every P xs
  left [] ys h = nil
  left (x ∷ xs) ys h = cons (head h) (left xs ys (tail h))

  pub right : (xs ys : List A) → Every P (xs ++ ys) → Every P ys
  right [] ys h = h
  right (x ∷ xs) ys h = right xs ys (tail h)

-- where more follows of each element, it holds of each
pub weaker : {A : Type 0} {P Q : A → Type 0} {xs : List A} → ((x : A) → P x → Q x) → Every P xs → Every Q xs
weaker {P = P} {Q = Q} {xs = xs} f h = record { all = All-weaker P Q f xs h.all }
