-- The last lines, and behind them a store that is saved.
use Rattle.std.proofs.Common.{◌≡◌, ℕ, ◌+◌, List, [], ◌++◌, length, sym, ap, ◌∙◌, append_assoc, append-nil, length-append}
use Rattle.std.specs.Prelude.{true, false, Option, None, Some, is_some, OnOk, OnErr, Result, Ok, Err}
use Rattle.std.specs.Io.KnownBytes.{Appends}
use Rattle.std.proofs.KnownBytes.{Appends-trans}
use Rattle.cell_model.specs.Store.{Store}
use Rattle.cell_model.specs.Counts.{lines_of, listing_of}
use Rattle.cell_image.specs.Images.{first_large, image}
use Rattle.cell_image.specs.LargeLines.{large_line}
use Rattle.listing_print.specs.GivenTexts.{GaveFront}
use Rattle.serve_job.specs.FleetRuns.{IsLast, image_text, is_too_large, saved_text, size_line}
use Rattle.serve_job.specs.declared.last_lines.LastLines.{LastLines}

-- what holds anyway holds at an error
pub on_err : {T E : Type 0} (r : Result T E) (P : Type 0) → P → OnErr r P
on_err (Ok x) P p = tt
on_err (Err e) P p = p

-- what follows where it failed, or where it didn't
pub err_so : {T E : Type 0} (r : Result T E) (P Q : Type 0) → (P → Q) → OnErr r P → OnErr r Q
err_so (Ok x) P Q so p = tt
err_so (Err e) P Q so p = so p

pub ok_so : {T E : Type 0} (r : Result T E) (P Q : Type 0) → (P → Q) → OnOk r P → OnOk r Q
ok_so (Ok x) P Q so p = so p
ok_so (Err e) P Q so p = tt

-- ---- what was given

-- a front of a text is one of more
pub front_more : (held held' : Option (List ℕ)) (text more : List ℕ) → GaveFront held held' text → GaveFront held held' (text ++ more)
front_more held held' text more f = record {
  front = f.front;
  gives = f.gives;
  rest = f.rest ++ more;
  text_is = ap (λ (xs : List ℕ). xs ++ more) f.text_is ∙ append_assoc f.front f.rest more;
}

-- a text was given, and a front of what is behind it
pub front_behind : (held mid held' : Option (List ℕ)) (text more : List ℕ) → Appends held mid text → GaveFront mid held' more → GaveFront held held' (text ++ more)
front_behind held mid held' text more gave f = record {
  front = text ++ f.front;
  gives = Appends-trans held mid held' text f.front gave f.gives;
  rest = f.rest;
  text_is = ap (λ (xs : List ℕ). text ++ xs) f.text_is ∙ sym (append_assoc text f.front f.rest);
}

-- ---- what is to be given

-- no store is saved
pub is_unsaved : (summary : List ℕ) (store : Store) (l : LastLines) → l.text.items ≡ summary → l.cells.items ≡ [] → l.refused ≡ false → IsLast (summary ++ saved_text false store) (is_too_large false store) l
is_unsaved summary store l text_is cells_are refused_is = record {
  lines_are = λ i. sym text_is i ++ sym cells_are i;
  refused_is = refused_is;
}

-- a cell is too large
pub is_refused : (text : List ℕ) (store : Store) (cell : ℕ) (l : LastLines) → first_large (lines_of store) ≡ Some cell → l.text.items ≡ text ++ large_line cell → l.cells.items ≡ [] → l.refused ≡ true
    → IsLast (text ++ saved_text true store) (is_too_large true store) l
is_refused text store cell l large text_is cells_are refused_is = record {
  lines_are = ap (λ (o : Option ℕ). text ++ image_text o (listing_of store)) large ∙ sym text_is ∙ sym (append-nil l.text.items) ∙ ap (λ (xs : List ℕ). l.text.items ++ xs) (sym cells_are);
  refused_is = refused_is ∙ sym (ap is_some large);
}

-- none is
pub is_saved : (text : List ℕ) (store : Store) (head cells : List ℕ) (l : LastLines) → first_large (lines_of store) ≡ None → image (listing_of store) ≡ head ++ cells → l.text.items ≡ (text ++ size_line (length head + length cells)) ++ head → l.cells.items ≡ cells
    → l.refused ≡ false → IsLast (text ++ saved_text true store) (is_too_large true store) l
is_saved text store head cells l none image_is text_is cells_are refused_is =
    let size : length (image (listing_of store)) ≡ length head + length cells = ap length image_is ∙ length-append head cells in
    record {
      lines_are = ap (λ (o : Option ℕ). text ++ image_text o (listing_of store)) none
          ∙ (λ i. text ++ (size_line (size i) ++ image_is i))
          ∙ sym (append_assoc text (size_line (length head + length cells)) (head ++ cells))
          ∙ sym (append_assoc (text ++ size_line (length head + length cells)) head cells)
          ∙ (λ i. sym text_is i ++ sym cells_are i);
      refused_is = refused_is ∙ sym (ap is_some none);
    }
