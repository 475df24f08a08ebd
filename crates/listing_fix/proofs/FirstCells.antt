-- Taking the first cell of each place, one after the other.
use Rattle.std.proofs.Common.{◌≡◌, ℕ, ◌+◌, ◌-◌, ◌<◌, ◌≤◌, Bool, true, false, cond, List, [], ◌∷◌, ◌++◌, length, take, drop, get_or, refl, sym, ap, ◌∙◌, arith, length-append}
use Rattle.std.specs.Prelude.{None, Some, option_map}
use Rattle.std.specs.List.{slice_get}
use Rattle.std.proofs.lemmas.List.{drop_all, drop_more}
use Rattle.std.proofs.lemmas.Option.{slice_get_read}
use Rattle.list_lemmas.proofs.ListCuts.{joined, nothing_behind}
use Rattle.cell_model.specs.declared.row.ListLine.{ListLine}
use Rattle.cell_model.specs.Rising.{place_of_line}
use Rattle.cell_listing.specs.ListedLines.{is_above, last_place}
use Rattle.listing_fix.specs.Fixes.{firsts}
use Rattle.listing_fix.specs.Steps.{KeepsIf}

last_at : (cells : List ListLine) (c : ListLine) (d : ListLine) → get_or (cells ++ c ∷ []) (length cells) d ≡ c
last_at [] c d = refl
last_at (x ∷ cells) c d = last_at cells c d

last_is : (cells : List ListLine) (c : ListLine) → last_place (cells ++ c ∷ []) ≡ Some (place_of_line c)
last_is cells c =
    let long = length-append cells (c ∷ []) in
    let at : length (cells ++ c ∷ []) - 1 ≡ length cells = omega (arith, long) in
    ap (option_map place_of_line) (ap (slice_get (cells ++ c ∷ [])) at ∙ slice_get_read (cells ++ c ∷ []) (length (cells ++ c ∷ [])) (length cells) c refl (omega (arith, long)) (sym (last_at cells c c)))

-- these were taken so far, in front, and the rest is to come
pub record IsTaken (all now : List ListLine) (kept at : ℕ) : Type 0 where
  pub split : firsts None all ≡ take kept now ++ firsts (last_place (take kept now)) (drop at now)
  pub behind : kept ≤ at
  pub long : length now ≡ length all

pub none_taken : (all : List ListLine) → IsTaken all all 0 0
none_taken all = record { split = ap (λ (ks : List ListLine). ks ++ firsts (last_place ks) all) (nothing all); behind = omega arith; long = refl }
  where
    nothing : (xs : List ListLine) → [] ≡ take 0 xs
    nothing [] = refl
    nothing (x ∷ xs) = refl

by_test : (b : Bool) (front : List ListLine) (c : ListLine) (more : List ListLine)
    → front ++ cond b (c ∷ firsts (Some (place_of_line c)) more) (firsts (last_place front) more) ≡ (front ++ cond b (c ∷ []) []) ++ firsts (last_place (front ++ cond b (c ∷ []) [])) more
by_test true front c more = sym (joined front (c ∷ []) (firsts (Some (place_of_line c)) more)) ∙ ap (λ o. (front ++ c ∷ []) ++ firsts o more) (sym (last_is front c))
by_test false front c more = ap (λ (ks : List ListLine). ks ++ firsts (last_place ks) more) (sym (nothing_behind front))

pub one_taken : (all old new front : List ListLine) (kept at now : ℕ) (c : ListLine) (b : Bool) → IsTaken all old kept at → at < length old → c ≡ get_or old at c → b ≡ is_above (last_place front) (place_of_line c)
    → KeepsIf old new kept at b now → front ≡ take kept old → IsTaken all new now (at + 1)
one_taken all old new front kept at now c b p lt is test k front_is =
    let long = p.long in
    record { split = split; behind = k.behind; long = k.long ∙ long }
  where
    test_is : is_above (last_place (take kept old)) (place_of_line c) ≡ b
    test_is = ap (λ (ks : List ListLine). is_above (last_place ks) (place_of_line c)) (sym front_is) ∙ sym test

    split : firsts None all ≡ take now new ++ firsts (last_place (take now new)) (drop (at + 1) new)
    split =
        p.split ∙ ap (λ (ls : List ListLine). take kept old ++ firsts (last_place (take kept old)) ls) (drop_more old at c lt ∙ (λ t. sym is t ∷ drop (at + 1) old))
        ∙ ap (λ b. take kept old ++ cond b (c ∷ firsts (Some (place_of_line c)) (drop (at + 1) old)) (firsts (last_place (take kept old)) (drop (at + 1) old))) test_is
        ∙ by_test b (take kept old) c (drop (at + 1) old)
        ∙ ap (λ (d : ListLine). (take kept old ++ cond b (d ∷ []) []) ++ firsts (last_place (take kept old ++ cond b (d ∷ []) [])) (drop (at + 1) old)) is
        ∙ (λ t. sym (k.front c) t ++ firsts (last_place (sym (k.front c) t)) (sym k.rest t))

pub all_taken : (all now : List ListLine) (kept at : ℕ) → IsTaken all now kept at → length now ≤ at → take kept now ≡ firsts None all
all_taken all now kept at p end = sym (p.split ∙ ap (λ (ls : List ListLine). take kept now ++ firsts (last_place (take kept now)) ls) (drop_all at now end) ∙ nothing_behind (take kept now))
