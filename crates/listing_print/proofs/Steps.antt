-- Rows of a store whose lines are taken one after the other.
use Rattle.std.proofs.Common.{◌≡◌, ℕ, ◌+◌, ◌<◌, ◌≤◌, false, List, [], ◌∷◌, ◌++◌, drop, length, get_or, refl, sym, ap, subst, ◌∙◌, append_assoc, append-nil}
use Rattle.std.proofs.lemmas.List.{drop_all, drop_more}
use Rattle.std.specs.Ordering.{is_lt}
use Rattle.qual_codec.specs.declared.cells.Cell.{Cell}
use Rattle.cell_model.specs.declared.row.Row.{Row}
use Rattle.cell_model.specs.declared.row.ListLine.{ListLine}
use Rattle.cell_model.specs.Counts.{lines_of}
use Rattle.cell_model.specs.Store.{Store, cells_of, row_cmp}
use Rattle.listing_print.specs.LineTaking.{JoinsLines, TookUpTo}
use Rattle.listing_print.specs.StoreRows.{TookRows, TookSome, line_in, lines_from, row_lines}
use Rattle.listing_print.proofs.RowOrder.{behind_row}
use Rattle.listing_print.proofs.RowLines.{Gap, NoneFrom, first_row, lines_all, lines_none, lines_over, lines_row}

row_next : (row : Row) (cells : List Cell) (i : ℕ) (c : Cell) → i < length cells → c ≡ get_or cells i c → row_lines row (drop i cells) ≡ (line_in row c ∷ []) ++ row_lines row (drop (i + 1) cells)
unfolding row_lines
row_next row cells i c lt is = ap (row_lines row) (drop_more cells i c lt) ∙ ap (λ (x : Cell). row_lines row (x ∷ drop (i + 1) cells)) (sym is)

row_last : (row : Row) (cells : List Cell) (i : ℕ) → length cells ≤ i → row_lines row (drop i cells) ≡ []
unfolding row_lines
row_last row cells i end = ap (row_lines row) (drop_all i cells end)

module _ {S : Type 0} {took ended : List ListLine → S → S → Type 0} (laws : JoinsLines took ended) where
  -- ---- one after the other

  pub took_none : (all : List ListLine) (a : S) → TookUpTo took all all a a
  took_none all a = record { lines = []; taken = laws.none a; all_is = refl }

  pub took_more : (all left more rest : List ListLine) (a b c : S) → TookUpTo took all left a b → left ≡ more ++ rest → took more b c → TookUpTo took all rest a c
  took_more all left more rest a b c f is on = record {
    lines = f.lines ++ more;
    taken = laws.on f.lines more a b c f.taken on;
    all_is = f.all_is ∙ ap (λ (ls : List ListLine). f.lines ++ ls) is ∙ sym (append_assoc f.lines more rest);
  }

  pub took_then : (all left rest : List ListLine) (a b c : S) → TookUpTo took all left a b → TookUpTo took left rest b c → TookUpTo took all rest a c
  took_then all left rest a b c f g = took_more all left g.lines rest a b c f g.all_is g.taken

  pub took_all : (all : List ListLine) (a b : S) → TookUpTo took all [] a b → took all a b
  took_all all a b f = subst (λ (ls : List ListLine). took ls a b) (sym (f.all_is ∙ append-nil f.lines)) f.taken

  pub ended_then : (all left : List ListLine) (a b c : S) → TookUpTo took all left a b → ended left b c → ended all a c
  ended_then all left a b c f g = subst (λ (ls : List ListLine). ended ls a c) (sym f.all_is) (laws.ends f.lines left a b c f.taken g)

  pub ended_within : (all left more rest : List ListLine) (a b c : S) → TookUpTo took all left a b → left ≡ more ++ rest → ended more b c → ended all a c
  ended_within all left more rest a b c f is g = ended_then all left a b c f (subst (λ (ls : List ListLine). ended ls b c) (sym is) (laws.part more rest b c g))

  pub ended_here : (all left : List ListLine) (a b : S) → TookUpTo took all left a b → ended all a b
  ended_here all left a b f = ended_then all left a b b f (laws.stays left b)

  -- ---- the cells of one row

  pub cells_on : (row : Row) (cells : List Cell) (i : ℕ) (x : Cell) (line : ListLine) (a b c : S) → i < length cells → x ≡ get_or cells i x → line ≡ line_in row x → TookUpTo took (row_lines row cells) (row_lines row (drop i cells)) a b
      → took (line ∷ []) b c → TookUpTo took (row_lines row cells) (row_lines row (drop (i + 1) cells)) a c
  cells_on row cells i x line a b c lt is line_is f g =
      took_more (row_lines row cells) (row_lines row (drop i cells)) (line_in row x ∷ []) (row_lines row (drop (i + 1) cells)) a b c f (row_next row cells i x lt is) (subst (λ (l : ListLine). took (l ∷ []) b c) line_is g)

  pub cells_front : (row : Row) (cells : List Cell) (i : ℕ) (x : Cell) (line : ListLine) (a b c : S) → i < length cells → x ≡ get_or cells i x → line ≡ line_in row x → TookUpTo took (row_lines row cells) (row_lines row (drop i cells)) a b
      → ended (line ∷ []) b c → ended (row_lines row cells) a c
  cells_front row cells i x line a b c lt is line_is f g =
      ended_within (row_lines row cells) (row_lines row (drop i cells)) (line_in row x ∷ []) (row_lines row (drop (i + 1) cells)) a b c f (row_next row cells i x lt is) (subst (λ (l : ListLine). ended (l ∷ []) b c) line_is g)

  pub cells_end : (row : Row) (cells : List Cell) (i : ℕ) (a b : S) → length cells ≤ i → TookUpTo took (row_lines row cells) (row_lines row (drop i cells)) a b → took (row_lines row cells) a b
  cells_end row cells i a b end f = took_all (row_lines row cells) a b (subst (λ (ls : List ListLine). TookUpTo took (row_lines row cells) ls a b) (row_last row cells i end) f)

  -- ---- rows

  pub rows_begin : (s : Store) (from : Row) (a : S) → TookRows took s from from a a
  rows_begin s from a = took_none (lines_from s from) a

  -- over a gap nothing is to be taken
  pub rows_over : (s : Store) (from to other : Row) (a b : S) → TookRows took s from to a b → is_lt (row_cmp other to) ≡ false → Gap s to other → TookRows took s from other a b
  rows_over s from to other a b f forward gap = subst (λ (ls : List ListLine). TookUpTo took (lines_from s from) ls a b) (lines_over s to other forward gap) f

  next_row : (s : Store) (to row : Row) (cells : List Cell) → is_lt (row_cmp row to) ≡ false → Gap s to row → cells ≡ cells_of s row → lines_from s to ≡ row_lines row cells ++ lines_from s (behind_row row)
  next_row s to row cells forward gap is = lines_row s to row forward gap ∙ ap (λ (cs : List Cell). row_lines row cs ++ lines_from s (behind_row row)) (sym is)

  -- the next row was taken
  pub rows_on : (s : Store) (from to row : Row) (cells : List Cell) (a b c : S) → TookRows took s from to a b → is_lt (row_cmp row to) ≡ false → Gap s to row → cells ≡ cells_of s row → took (row_lines row cells) b c → TookRows took s from (behind_row row) a c
  rows_on s from to row cells a b c f forward gap is g = took_more (lines_from s from) (lines_from s to) (row_lines row cells) (lines_from s (behind_row row)) a b c f (next_row s to row cells forward gap is) g

  -- or a front of it
  pub rows_front : (s : Store) (from to row : Row) (cells : List Cell) (a b c : S) → TookRows took s from to a b → is_lt (row_cmp row to) ≡ false → Gap s to row → cells ≡ cells_of s row → ended (row_lines row cells) b c → TookSome ended s from a c
  rows_front s from to row cells a b c f forward gap is g = ended_within (lines_from s from) (lines_from s to) (row_lines row cells) (lines_from s (behind_row row)) a b c f (next_row s to row cells forward gap is) g

  -- so far some was taken
  pub rows_some : (s : Store) (from to : Row) (a b : S) → TookRows took s from to a b → TookSome ended s from a b
  rows_some s from to a b f = ended_here (lines_from s from) (lines_from s to) a b f

  pub rows_then : (s : Store) (from to other : Row) (a b c : S) → TookRows took s from to a b → TookRows took s to other b c → TookRows took s from other a c
  rows_then s from to other a b c f g = took_then (lines_from s from) (lines_from s to) (lines_from s other) a b c f g

  pub some_then : (s : Store) (from to : Row) (a b c : S) → TookRows took s from to a b → TookSome ended s to b c → TookSome ended s from a c
  some_then s from to a b c f g = ended_then (lines_from s from) (lines_from s to) a b c f g

  -- where no row is left all were taken
  pub rows_end : (s : Store) (from to : Row) (a b : S) → TookRows took s from to a b → NoneFrom s to → took (lines_from s from) a b
  rows_end s from to a b f none = took_all (lines_from s from) a b (subst (λ (ls : List ListLine). TookUpTo took (lines_from s from) ls a b) (lines_none s to none) f)

  -- ---- the whole store

  pub whole_taken : (s : Store) (to : Row) (a b c : S) → TookRows took s first_row to a b → took (lines_from s to) b c → took (lines_of s) a c
  whole_taken s to a b c f g =
      subst (λ (ls : List ListLine). took ls a c) (lines_all s)
      (took_all (lines_from s first_row) a c (took_more (lines_from s first_row) (lines_from s to) (lines_from s to) [] a b c f (sym (append-nil (lines_from s to))) g))

  pub whole_front : (s : Store) (a b : S) → TookSome ended s first_row a b → ended (lines_of s) a b
  whole_front s a b f = subst (λ (ls : List ListLine). ended ls a b) (lines_all s) f
