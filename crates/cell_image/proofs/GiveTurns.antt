-- An image is given piece by piece.
use Rattle.std.proofs.Common.{◌≡◌, ℕ, ◌+◌, ◌<◌, ◌≤◌, List, ◌∷◌, ◌++◌, drop, length, get_or, sym, ap, subst, ◌∙◌, append_assoc, append-nil}
use Rattle.std.specs.Prelude.{Option, OnErr, Result, Ok, Err}
use Rattle.std.specs.Io.KnownBytes.{Appends}
use Rattle.std.proofs.KnownBytes.{Appends-trans}
use Rattle.std.proofs.lemmas.List.{drop_all, drop_more}
use Rattle.cell_model.specs.declared.row.ListLine.{ListLine}
use Rattle.listing_print.specs.GivenTexts.{GaveFront, GaveUpTo}
use Rattle.cell_image.specs.Images.{cell_image, cells_image}
use Rattle.cell_image.specs.ImageGifts.{Giving}

-- what holds anyway holds at an error
pub on_err : {T E : Type 0} (r : Result T E) (P : Type 0) → P → OnErr r P
on_err (Ok x) P p = tt
on_err (Err e) P p = p

-- one more cell waits
pub waits_on : (held held' : Option (List ℕ)) (waits waits' : List ℕ) (cells : List ListLine) (i : ℕ) (c : ListLine) (all : List ℕ) → i < length cells → c ≡ get_or cells i c → waits' ≡ waits ++ cell_image c
    → Giving held held' waits (drop i cells) all → Giving held held' waits' (drop (i + 1) cells) all
waits_on held held' waits waits' cells i c all lt is e p =
    let rest : drop i cells ≡ c ∷ drop (i + 1) cells = drop_more cells i c lt ∙ (λ t. sym is t ∷ drop (i + 1) cells) in
    let on : waits' ++ cells_image (drop (i + 1) cells) ≡ waits ++ cells_image (drop i cells) =
    ap (λ xs. xs ++ cells_image (drop (i + 1) cells)) e ∙ append_assoc waits (cell_image c) (cells_image (drop (i + 1) cells)) ∙ ap (λ xs. waits ++ xs) (sym (ap cells_image rest)) in
    record { given = p.given; gives = p.gives; all_is = p.all_is ∙ ap (λ xs. p.given ++ xs) (sym on) }

-- what waited was given
pub gives_on : (held held' held'' : Option (List ℕ)) (waits waits' : List ℕ) (left : List ListLine) (all : List ℕ) → Giving held held' waits left all → GaveUpTo held' held'' waits waits' → Giving held held'' waits' left all
gives_on held held' held'' waits waits' left all p g = record {
  given = p.given ++ g.given;
  gives = Appends-trans held held' held'' p.given g.given p.gives g.gives;
  all_is = p.all_is ∙ ap (λ xs. p.given ++ (xs ++ cells_image left)) g.waited_is ∙ ap (λ xs. p.given ++ xs) (append_assoc g.given waits' (cells_image left)) ∙ sym (append_assoc p.given g.given (waits' ++ cells_image left));
}

-- a front was given, whatever waits
pub is_front : (held held' : Option (List ℕ)) (waits : List ℕ) (left : List ListLine) (all : List ℕ) → Giving held held' waits left all → GaveFront held held' all
is_front held held' waits left all p = record { front = p.given; gives = p.gives; rest = waits ++ cells_image left; text_is = p.all_is }

-- and a front of what waits
pub with_front : (held held' held'' : Option (List ℕ)) (waits : List ℕ) (left : List ListLine) (all : List ℕ) → Giving held held' waits left all → GaveFront held' held'' waits → GaveFront held held'' all
with_front held held' held'' waits left all p g = record {
  front = p.given ++ g.front;
  gives = Appends-trans held held' held'' p.given g.front p.gives g.gives;
  rest = g.rest ++ cells_image left;
  text_is = p.all_is ∙ ap (λ xs. p.given ++ (xs ++ cells_image left)) g.text_is ∙ ap (λ xs. p.given ++ xs) (append_assoc g.front g.rest (cells_image left)) ∙ sym (append_assoc p.given g.front (g.rest ++ cells_image left));
}

-- all was given
pub ends : (held held' held'' : Option (List ℕ)) (waits : List ℕ) (cells : List ListLine) (i : ℕ) (all : List ℕ) → length cells ≤ i → Giving held held' waits (drop i cells) all → Appends held' held'' waits → Appends held held'' all
ends held held' held'' waits cells i all end p a =
    let whole : all ≡ p.given ++ waits = p.all_is ∙ ap (λ (cs : List ListLine). p.given ++ (waits ++ cells_image cs)) (drop_all i cells end) ∙ ap (λ xs. p.given ++ xs) (append-nil waits) in
    subst (λ xs. Appends held held'' xs) (sym whole) (Appends-trans held held' held'' p.given waits p.gives a)
