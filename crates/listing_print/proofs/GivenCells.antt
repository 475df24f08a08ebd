-- Cells that are given line by line.
use Rattle.std.proofs.Common.{◌≡◌, ℕ, ◌+◌, ◌<◌, ◌≤◌, List, [], ◌∷◌, ◌++◌, drop, take, length, get_or, sym, ap, subst, ◌∙◌, append_assoc, append-nil}
use Rattle.std.specs.Prelude.{Option, OnErr, Result, Ok, Err}
use Rattle.std.specs.Io.KnownBytes.{Appends}
use Rattle.std.proofs.KnownBytes.{Appends-nil, Appends-trans}
use Rattle.std.proofs.lemmas.List.{drop_all, drop_more, take-append-drop}
use Rattle.cell_model.specs.declared.row.ListLine.{ListLine}
use Rattle.cell_listing.specs.Grammar.{cells_text, line_text}
use Rattle.listing_print.specs.GivenTexts.{GaveFront, GaveUpTo, Printing}

pub begins : (held : Option (List ℕ)) (cells : List ListLine) → Printing held held [] cells (cells_text cells)
begins held cells = record { given = []; gives = Appends-nil held; text_is = λ _. cells_text cells }

-- what holds anyway holds at an error
pub on_err : {T E : Type 0} (r : Result T E) (P : Type 0) → P → OnErr r P
on_err (Ok x) P p = tt
on_err (Err e) P p = p

-- a front is so many bytes of a text
pub is_taken : (held held' : Option (List ℕ)) (text : List ℕ) (n : ℕ) → Appends held held' (take n text) → GaveFront held held' text
is_taken held held' text n gives = record { front = take n text; gives = gives; rest = drop n text; text_is = sym (take-append-drop n text) }

-- one more line waits
pub waits_on : (held held' : Option (List ℕ)) (waits waits' : List ℕ) (cells : List ListLine) (i : ℕ) (c : ListLine) (text : List ℕ) → i < length cells → c ≡ get_or cells i c → waits' ≡ waits ++ (line_text c ++ 10 ∷ [])
    → Printing held held' waits (drop i cells) text → Printing held held' waits' (drop (i + 1) cells) text
waits_on held held' waits waits' cells i c text lt is e p =
    let rest : drop i cells ≡ c ∷ drop (i + 1) cells = drop_more cells i c lt ∙ (λ t. sym is t ∷ drop (i + 1) cells) in
    let on : waits' ++ cells_text (drop (i + 1) cells) ≡ waits ++ cells_text (drop i cells) =
    ap (λ xs. xs ++ cells_text (drop (i + 1) cells)) e ∙ append_assoc waits (line_text c ++ 10 ∷ []) (cells_text (drop (i + 1) cells)) ∙ ap (λ xs. waits ++ xs) (sym (ap cells_text rest)) in
    record { given = p.given; gives = p.gives; text_is = p.text_is ∙ ap (λ xs. p.given ++ xs) (sym on) }

-- what waited was given
pub gives_on : (held held' held'' : Option (List ℕ)) (waits waits' : List ℕ) (left : List ListLine) (text : List ℕ) → Printing held held' waits left text → GaveUpTo held' held'' waits waits' → Printing held held'' waits' left text
gives_on held held' held'' waits waits' left text p g = record {
  given = p.given ++ g.given;
  gives = Appends-trans held held' held'' p.given g.given p.gives g.gives;
  text_is = p.text_is ∙ ap (λ xs. p.given ++ (xs ++ cells_text left)) g.waited_is ∙ ap (λ xs. p.given ++ xs) (append_assoc g.given waits' (cells_text left)) ∙ sym (append_assoc p.given g.given (waits' ++ cells_text left));
}

-- a front was given, whatever waits
pub is_front : (held held' : Option (List ℕ)) (waits : List ℕ) (left : List ListLine) (text : List ℕ) → Printing held held' waits left text → GaveFront held held' text
is_front held held' waits left text p = record { front = p.given; gives = p.gives; rest = waits ++ cells_text left; text_is = p.text_is }

-- and a front of what waits
pub with_front : (held held' held'' : Option (List ℕ)) (waits : List ℕ) (left : List ListLine) (text : List ℕ) → Printing held held' waits left text → GaveFront held' held'' waits → GaveFront held held'' text
with_front held held' held'' waits left text p g = record {
  front = p.given ++ g.front;
  gives = Appends-trans held held' held'' p.given g.front p.gives g.gives;
  rest = g.rest ++ cells_text left;
  text_is = p.text_is ∙ ap (λ xs. p.given ++ (xs ++ cells_text left)) g.text_is ∙ ap (λ xs. p.given ++ xs) (append_assoc g.front g.rest (cells_text left)) ∙ sym (append_assoc p.given g.front (g.rest ++ cells_text left));
}

-- all was given
pub ends : (held held' held'' : Option (List ℕ)) (waits : List ℕ) (cells : List ListLine) (i : ℕ) (text : List ℕ) → length cells ≤ i → Printing held held' waits (drop i cells) text → Appends held' held'' waits → Appends held held'' text
ends held held' held'' waits cells i text end p a =
    let whole : text ≡ p.given ++ waits = p.text_is ∙ ap (λ (cs : List ListLine). p.given ++ (waits ++ cells_text cs)) (drop_all i cells end) ∙ ap (λ xs. p.given ++ xs) (append-nil waits) in
    subst (λ xs. Appends held held'' xs) (sym whole) (Appends-trans held held' held'' p.given waits p.gives a)
