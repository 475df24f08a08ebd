-- The latest data point of a row.
use Rattle.std.proofs.Common.{◌≡◌, ◌⊎◌, inl, inr, ℕ, zero, suc, ◌+◌, ◌-◌, ◌*◌, ◌<◌, ◌≤◌, List, [], ◌∷◌, ◌++◌, length, get_or, take, refl, sym, ap, subst, ◌∙◌, arith}
use Rattle.std.specs.Prelude.{ℤ, Contains, Option, None, Some, Ok, Err, min, max}
use Rattle.std.proofs.lemmas.List.{take_all, take_more}
use Rattle.std.proofs.lemmas.List.Elements.{Contains-append_cases, Contains-append_left, Contains-append_right}
use Rattle.list_lemmas.proofs.ListMembers.{here, split, not_in}
use Rattle.qual_codec.specs.declared.cells.Cell.{Cell}
use Rattle.qual_codec.specs.declared.cells.Dot.{Dot}
use Rattle.qual_codec.specs.declared.cells.MergeFault.{MergeFault}
use Rattle.qual_codec.specs.declared.cells.MergeFault.TheVariants as merge
use Rattle.qual_codec.specs.Merge.{AreDots, Keeps, values_at}
use Rattle.qual_codec.proofs.CallerLemmas.{dot_good, dot_in, dot_value}
use Rattle.metric_scan.specs.declared.fault.AskFault.{AskFault}
use Rattle.metric_scan.specs.declared.fault.AskFault.TheVariants as ask
use Rattle.series_meta.specs.HourWalks.{IsLatest, GivesLatest, GivesLater, GivesDot, GivesPoint, row_fault, row_point}

pub le_or : (a b : ℕ) → (a ≤ b) ⊎ (b < a)
le_or zero b = inl (omega arith)
le_or (suc a) zero = inr (omega arith)
le_or (suc a) (suc b) = elim (le_or a b) [ inl l ↦ inl (omega (arith, l)) | inr r ↦ inr (omega (arith, r)) ]

pub only : {X : Type 0} (x y : X) → Contains (x ∷ []) y → x ≡ y
only x y c = elim (split x y [] c) [ inl is ↦ is | inr none ↦ absurd (not_in y none) ]

-- ---- one more data point

-- one of them, or the one behind them
one_of : (dots : List Dot) (d x : Dot) → Contains (dots ++ d ∷ []) x → Contains dots x ⊎ (d ≡ x)
one_of dots d x c = elim (Contains-append_cases dots (d ∷ []) x c) [ inl l ↦ inl l | inr r ↦ inr (only d x r) ]

same_offset : (d x : Dot) (offset : ℕ) → d.item.offset ≡ offset → d ≡ x → x.item.offset ≡ offset
same_offset d x offset is same = ap (λ (y : Dot). y.item.offset) (sym same) ∙ is

pub later_none : (most : ℕ) → GivesLatest [] most None
later_none most d c = absurd (not_in d c)

pub later_above : (latest : Option ℕ) (offset most : ℕ) → most < offset → GivesLater latest offset most latest
later_above None offset most lt dots d is g = λ x c. elim (one_of dots d x c) [
  | inl l ↦ g x l
  | inr same ↦ let e = same_offset d x offset is same in omega (arith, lt, e)
]
later_above (Some other) offset most lt dots d is g = record {
  dot = g.dot;
  among = Contains-append_left dots (d ∷ []) g.dot g.among;
  offset_is = g.offset_is;
  up_to = g.up_to;
  latest = λ x c le. elim (one_of dots d x c) [
    | inl l ↦ g.latest x l le
    | inr same ↦ let e = same_offset d x offset is same in absurd (omega (arith, lt, e, le))
  ];
}

pub later_first : (offset most : ℕ) → offset ≤ most → GivesLater None offset most (Some offset)
later_first offset most up dots d is g = record {
  dot = d;
  among = Contains-append_right dots (d ∷ []) d (here d []);
  offset_is = is;
  up_to = up;
  latest = λ x c le. elim (one_of dots d x c) [
    | inl l ↦ let above = g x l in absurd (omega (arith, above, le))
    | inr same ↦ let e = same_offset d x offset is same in omega (arith, e)
  ];
}

pub later_most : (other offset most new : ℕ) → offset ≤ most → new ≡ max other offset → GivesLater (Some other) offset most (Some new)
later_most other offset most new up new_is dots d is g = at (le_or offset other)
  where
    last : (n : ℕ) → other ≤ n → offset ≤ n → (x : Dot) → Contains (dots ++ d ∷ []) x → x.item.offset ≤ most → x.item.offset ≤ n
    last n a b x c le = elim (one_of dots d x c) [
      | inl l ↦ let u = g.latest x l le in omega (arith, u, a)
      | inr same ↦ let e = same_offset d x offset is same in omega (arith, e, b)
    ]

    at : (offset ≤ other) ⊎ (other < offset) → IsLatest (dots ++ d ∷ []) most new
    at (inl le) = let e : new ≡ other = omega (arith, new_is, le) in record {
      dot = g.dot;
      among = Contains-append_left dots (d ∷ []) g.dot g.among;
      offset_is = g.offset_is ∙ sym e;
      up_to = let u = g.up_to in omega (arith, u, e);
      latest = last new (omega (arith, e)) (omega (arith, e, le));
    }
    at (inr lt) = let e : new ≡ offset = omega (arith, new_is, lt) in record {
      dot = d;
      among = Contains-append_right dots (d ∷ []) d (here d []);
      offset_is = is ∙ sym e;
      up_to = omega (arith, up, e);
      latest = last new (omega (arith, e, lt)) (omega (arith, e));
    }

-- by what the latest so far is
pub later_nothing : (latest : Option ℕ) (offset most : ℕ) → latest ≡ None → offset ≤ most → GivesLater latest offset most (Some offset)
later_nothing latest offset most is up dots d at far = later_first offset most up dots d at (subst (GivesLatest dots most) is far)

pub later_some : (latest : Option ℕ) (other offset most new : ℕ) → latest ≡ Some other → offset ≤ most → new ≡ max other offset → GivesLater latest offset most (Some new)
later_some latest other offset most new is up new_is dots d at far = later_most other offset most new up new_is dots d at (subst (GivesLatest dots most) is far)

-- of the data points up to a place, and of all
pub latest_more : (dots : List Dot) (i : ℕ) (x : Dot) (latest now : Option ℕ) (most offset : ℕ) → GivesLatest (take i dots) most latest → i < length dots → offset ≡ (get_or dots i x).item.offset → GivesLater latest offset most now → GivesLatest (take (i + 1) dots) most now
latest_more dots i x latest now most offset far lt is more = subst (λ (ds : List Dot). GivesLatest ds most now) (sym (take_more dots i x lt)) (more (take i dots) (get_or dots i x) (sym is) far)

pub latest_all : (dots : List Dot) (i : ℕ) (latest : Option ℕ) (most : ℕ) → length dots ≤ i → GivesLatest (take i dots) most latest → GivesLatest dots most latest
latest_all dots i latest most le far = subst (λ (ds : List Dot). GivesLatest ds most latest) (take_all i dots le) far

-- ---- what merging keeps at the latest offset

pub latest_none : (cells : List Cell) (dots list : List Dot) (most : ℕ) (latest : Option ℕ) → AreDots cells dots → list ≡ dots → latest ≡ None → GivesLatest list most latest → GivesDot cells most (Ok None)
latest_none cells dots list most latest are same none far = (dots, are, subst (λ (ds : List Dot). GivesLatest ds most None) same (subst (GivesLatest list most) none far))

some_kept : (dots kept : List Dot) (most offset : ℕ) → IsLatest dots most offset → Keeps dots offset offset kept → 0 < length kept
some_kept dots kept most offset l k =
    let is = l.offset_is in
    let w = k.best l.dot l.among (omega (arith, is)) (omega (arith, is)) in
    let lt = w.1.1 in omega (arith, lt)

kept_dot : (cells : List Cell) (dots kept : List Dot) (most offset : ℕ) (d : Dot) → AreDots cells dots → IsLatest dots most offset → Keeps dots offset offset kept → Contains kept d → GivesDot cells most (Ok (Some d))
kept_dot cells dots kept most offset d are l k c =
    let e = k.each d c in
    let low = e.1 in
    let high = e.2 in
    let is : offset ≡ d.item.offset = omega (arith, low, high) in (
      dots,
      are,
      subst (IsLatest dots most) is l,
      e.0,
      k.one_value d.item.offset low high,
    )

-- the first that is kept, by what the latest offset is
pub latest_kept : (cells : List Cell) (dots list kept : List Dot) (most offset : ℕ) (latest : Option ℕ) (d : Dot) → AreDots cells dots → list ≡ dots → latest ≡ Some offset → GivesLatest list most latest → Keeps dots offset offset kept → d ≡ get_or kept 0 d → GivesDot cells most (Ok (Some d))
latest_kept cells dots list kept most offset latest d are same some far k at =
    let l = subst (λ (ds : List Dot). IsLatest ds most offset) same (subst (GivesLatest list most) some far) in
    kept_dot cells dots kept most offset d are l k (0, some_kept dots kept most offset l k, sym at)

-- ---- at its time

-- offsets are within the hour
are_offsets : (cells : List Cell) (dots : List Dot) → AreDots cells dots → (x : Dot) → Contains dots x → x.item.offset ≤ 3599999
are_offsets cells dots are x c = let w = dot_in cells dots x are c in (dot_good w.cell.qual w.cell.value w.dots x w.are w.has).0.offset

module _ (cells : List Cell) (base now most : ℕ) (begun : base * 1000 ≤ now) (most_is : most ≡ min (now - base * 1000) 3599999) where
  within : (dots : List Dot) → AreDots cells dots → (x : Dot) → Contains dots x → base * 1000 + x.item.offset ≤ now → x.item.offset ≤ most
  within dots are x c le = let small = are_offsets cells dots are x c in omega (arith, le, small, most_is, begun)

  point_none : GivesDot cells most (Ok None) → GivesPoint cells base now (Ok None)
  point_none (dots, are, above) = (dots, are, λ x c. elim (le_or (base * 1000 + x.item.offset) now) [ inl le ↦ let m = within dots are x c le in let a = above x c in absurd (omega (arith, m, a)) | inr lt ↦ lt ])

  point_some : (d : Dot) → GivesDot cells most (Ok (Some d)) → GivesPoint cells base now (Ok (Some (base * 1000 + d.item.offset, d.value)))
  point_some d (dots, are, l, c, one) = (
    dots,
    are,
    (
      values_at d.item.offset dots,
      record { offset = d.item.offset; time_is = refl; up_to = let u = l.up_to in omega (arith, u, most_is, begun); latest = λ x i le. l.latest x i (within dots are x i le); values_are = refl },
      one,
      dot_value dots d d.item.offset c refl,
    ),
  )

  point_two : (offset : ℕ) (a b : ℤ) → GivesDot cells most (Err (merge.Conflict offset a b)) → GivesPoint cells base now (Err (ask.Duplicate (base * 1000 + offset) a b))
  point_two offset a b (dots, are, l, two) = (
    dots,
    are,
    (
      values_at offset dots,
      record { offset = offset; time_is = refl; up_to = let u = l.up_to in omega (arith, u, most_is, begun); latest = λ x i le. l.latest x i (within dots are x i le); values_are = refl },
      two,
    ),
  )

  pub point_ok : (dot : Option Dot) (answer : Option (ℕ × ℤ)) → GivesDot cells most (Ok dot) → answer ≡ row_point (base * 1000) dot → GivesPoint cells base now (Ok answer)
  point_ok None answer g is = subst (λ (x : Option (ℕ × ℤ)). GivesPoint cells base now (Ok x)) (sym is) (point_none g)
  point_ok (Some d) answer g is = subst (λ (x : Option (ℕ × ℤ)). GivesPoint cells base now (Ok x)) (sym is) (point_some d g)

  pub point_err : (fault : MergeFault) (answer : AskFault) → GivesDot cells most (Err fault) → answer ≡ row_fault (base * 1000) fault → GivesPoint cells base now (Err answer)
  point_err (merge.Conflict offset a b) answer g is = subst (λ (x : AskFault). GivesPoint cells base now (Err x)) (sym is) (point_two offset a b g)
  point_err merge.OutOfMemory answer g is = subst (λ (x : AskFault). GivesPoint cells base now (Err x)) (sym is) tt
