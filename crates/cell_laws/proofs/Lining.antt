-- The lines of a store without versions tell it.
use Rattle.std.proofs.Common.{◌≡◌, ℕ, Bool, true, false, cond, List, [], ◌∷◌, refl, sym, ap, ◌∙◌}
use Rattle.std.specs.Prelude.{Option, None, Some, option_map, map}
use Rattle.std.specs.Ordering.{eq_by_cmp}
use Rattle.std.specs.FinMap.{find, get-entries, get-from_entries}
use Rattle.cell_model.specs.declared.events.Place.{Place}
use Rattle.cell_model.specs.declared.events.Content.{Content}
use Rattle.cell_model.specs.Store.{entries, get, place_cmp}
use Rattle.cell_model.specs.Counts.{line_of, lines_of, listing_of}
use Rattle.cell_model.specs.Listed.{entry_of_line, store_of}
use Rattle.cell_laws.specs.Laws.{LinesTellStore}
use Rattle.cell_model.proofs.CallerLemmas.{places_total, same_store}

without_version : Content → Content
without_version c = record { value = c.value; version = 0 }

-- what a key finds among the lines is what it finds in the store, without its version
find_told : (es : List (Place × Content)) (q : Place) → find place_cmp q (map entry_of_line (map line_of es)) ≡ option_map without_version (find place_cmp q es)
unfolding without_version
find_told [] q = refl
find_told (e ∷ es) q = at (eq_by_cmp place_cmp q e.0) (find_told es q)
  where
    at : (b : Bool) → find place_cmp q (map entry_of_line (map line_of es)) ≡ option_map without_version (find place_cmp q es)
        → cond b (Some (without_version e.1)) (find place_cmp q (map entry_of_line (map line_of es))) ≡ option_map without_version (cond b (Some e.1) (find place_cmp q es))
    at true rest = refl
    at false rest = rest

same_content : (o : Option Content) → ((c : Content) → o ≡ Some c → c.version ≡ 0) → option_map without_version o ≡ o
unfolding without_version
same_content None h = refl
same_content (Some c) h = ap (λ (n : ℕ). Some (record { value = c.value; version = n })) (sym (h c refl))

pub lines_tell_store : LinesTellStore
lines_tell_store s h = same_store (store_of (listing_of s)) s refl
    (λ q. get-from_entries places_total (map entry_of_line (lines_of s)) q ∙ find_told (entries s) q ∙ ap (option_map without_version) (sym (get-entries s.cells q)) ∙ same_content (get s q) (λ c is. h q.row q.qual c is))
