-- Of cells those that stay, one after the other.
use Rattle.std.proofs.Common.{◌≡◌, ℕ, ◌+◌, ◌<◌, ◌≤◌, Bool, true, false, cond, List, [], ◌∷◌, ◌++◌, length, take, drop, get_or, refl, sym, ap, ◌∙◌, arith}
use Rattle.std.specs.Prelude.{map, filter}
use Rattle.std.specs.List.{SwappedAt}
use Rattle.std.proofs.lemmas.List.{drop-set-lt, drop_all, drop_more, length-set, take-set-le, take_more}
use Rattle.list_lemmas.proofs.ListCuts.{joined, nothing_behind}
use Rattle.row_key.specs.declared.tables.Table.TheVariants.{Ids}
use Rattle.cell_model.specs.declared.row.ListLine.{ListLine}
use Rattle.listing_fix.specs.Steps.{KeepsIf, chosen}

-- ---- one cell

pub is_moved : (old new : List ListLine) (kept at : ℕ) (stays : Bool) (now : ℕ) → kept ≤ at → at < length old → SwappedAt old new kept at → stays ≡ true → now ≡ kept + 1 → KeepsIf old new kept at stays now
is_moved old new kept at stays now le lt s stay count =
    record { front = front; rest = rest; long = long; behind = omega (arith, le, count) }
  where
    some : ListLine
    some = record { table = Ids; row = []; qual = []; value = [] }

    long : length new ≡ length old
    long = ap length (s.3 some) ∙ length-set _ at _ ∙ length-set old kept _

    rest : drop (at + 1) new ≡ drop (at + 1) old
    rest = ap (drop (at + 1)) (s.3 some) ∙ drop-set-lt (at + 1) _ at _ (omega arith) ∙ drop-set-lt (at + 1) old kept _ (omega (arith, le))

    before : take kept new ≡ take kept old
    before = ap (take kept) (s.3 some) ∙ take-set-le kept _ at _ le ∙ take-set-le kept old kept _ (omega arith)

    front : (d : ListLine) → take now new ≡ take kept old ++ cond stays (get_or old at d ∷ []) []
    front d =
        ap (λ k. take k new) count ∙ take_more new kept d (omega (arith, long, le, lt)) ∙ (λ t. before t ++ s.0 d t ∷ [])
        ∙ ap (λ b. take kept old ++ cond b (get_or old at d ∷ []) []) (sym stay)

pub is_left : (old new : List ListLine) (kept at : ℕ) (stays : Bool) (now : ℕ) → kept ≤ at → new ≡ old → stays ≡ false → now ≡ kept → KeepsIf old new kept at stays now
is_left old new kept at stays now le same goes count = record {
  front = λ d. (λ t. take (count t) (same t)) ∙ sym (nothing_behind (take kept old)) ∙ ap (λ b. take kept old ++ cond b (get_or old at d ∷ []) []) (sym goes);
  rest = ap (drop (at + 1)) same;
  long = ap length same;
  behind = omega (arith, le, count);
}

-- ---- all

-- these stay so far, in front, and the rest is to come
pub record IsPicked (flags : List Bool) (all now : List ListLine) (kept at : ℕ) : Type 0 where
  pub split : chosen flags all ≡ take kept now ++ chosen (drop at flags) (drop at now)
  pub behind : kept ≤ at
  pub long : length now ≡ length flags

pub none_picked : (flags : List Bool) (all : List ListLine) → length flags ≡ length all → IsPicked flags all all 0 0
none_picked flags all long = record { split = ap (λ (ks : List ListLine). ks ++ chosen flags all) (nothing all); behind = omega arith; long = sym long }
  where
    nothing : (xs : List ListLine) → [] ≡ take 0 xs
    nothing [] = refl
    nothing (x ∷ xs) = refl

by_flag : (b : Bool) (front : List ListLine) (c : ListLine) (more : List ListLine) → front ++ cond b (c ∷ more) more ≡ (front ++ cond b (c ∷ []) []) ++ more
by_flag true front c more = sym (joined front (c ∷ []) more)
by_flag false front c more = ap (λ (ks : List ListLine). ks ++ more) (sym (nothing_behind front))

pub one_picked : (flags : List Bool) (all old new : List ListLine) (kept at now : ℕ) (b : Bool) → IsPicked flags all old kept at → at < length flags → KeepsIf old new kept at b now → b ≡ get_or flags at b → IsPicked flags all new now (at + 1)
one_picked flags all old new kept at now b p lt k flag =
    let long = p.long in
    record { split = split; behind = k.behind; long = k.long ∙ long }
  where
    some : ListLine
    some = record { table = Ids; row = []; qual = []; value = [] }

    within : at < length old
    within = let long = p.long in omega (arith, lt, long)

    split : chosen flags all ≡ take now new ++ chosen (drop (at + 1) flags) (drop (at + 1) new)
    split =
        p.split ∙ ap (λ (fs : List Bool). take kept old ++ chosen fs (drop at old)) (drop_more flags at b lt ∙ (λ t. sym flag t ∷ drop (at + 1) flags))
        ∙ ap (λ (ls : List ListLine). take kept old ++ chosen (b ∷ drop (at + 1) flags) ls) (drop_more old at some within)
        ∙ by_flag b (take kept old) (get_or old at some) (chosen (drop (at + 1) flags) (drop (at + 1) old))
        ∙ (λ t. sym (k.front some) t ++ chosen (drop (at + 1) flags) (sym k.rest t))

pub all_picked : (flags : List Bool) (all now : List ListLine) (kept at : ℕ) → IsPicked flags all now kept at → length flags ≤ at → take kept now ≡ chosen flags all
all_picked flags all now kept at p end = sym (p.split ∙ ap (λ (fs : List Bool). take kept now ++ chosen fs (drop at now)) (drop_all at flags end) ∙ nothing_behind (take kept now))

-- flags that a test gives choose what it keeps
pub chosen_map : (f : ListLine → Bool) (cells : List ListLine) → chosen (map f cells) cells ≡ filter f cells
chosen_map f [] = refl
chosen_map f (c ∷ cells) = let go = chosen_map f cells in λ t. cond (f c) (c ∷ go t) (go t)
