-- Names stand in the order of their ranks, and so do lists of tags.
use Rattle.std.proofs.Common.{◌≡◌, ℕ, ◌<◌, List, [], ◌∷◌, refl, sym, ap, ◌∙◌, arith}
use Rattle.std.specs.Prelude.{Contains, AllPairs}
use Rattle.std.specs.Ordering.{MatchOrdering, nat_cmp, ordering_reverse, ordering_then}
use Rattle.std.specs.declared.cmp.Ordering.{Ordering}
use Rattle.std.specs.declared.cmp.Ordering.TheVariants.{Less, Equal, Greater}
use Rattle.std.specs.Cmp.{nat_cmp_total, tied_itself}
use Rattle.std.specs.Cmp.Lexicographic.{nat_list_cmp_total, slice_cmp}
use Rattle.list_lemmas.proofs.ListParts.{pairs_cons}
use Rattle.std.proofs.lemmas.Cmp.{ranked}
use Rattle.list_lemmas.specs.BytesOrder.{bytes_cmp}
use Rattle.list_lemmas.proofs.ListMembers.{here, there, map_in, pairs_in, pairs_tail}
use Rattle.tsd_base.specs.TagList.{Pair, RiseByKey, tags_cmp}
use Rattle.tsd_base.specs.TagList as tag_list
use Rattle.tsd_base.specs.declared.kinds.Kind.{Kind}
use Rattle.tsd_base.specs.declared.kinds.Kind.TheVariants.{TagKey, TagValue}
use Rattle.row_key.specs.KeyOrder.{pair_cmp}
use Rattle.cell_model.specs.declared.row.ListLine.{ListLine}
use Rattle.cell_model.specs.KindWidths.{Widths}
use Rattle.cell_model.specs.PlaceOrder.{table_number}
use Rattle.cell_model.specs.Rising.{LinesRise}
use Rattle.listing_dump.specs.NameRanks.{IsRank}
use Rattle.listing_dump.specs.RowPoints.{row_at, tags_at}
use Rattle.listing_dump.proofs.RowCells.{less_at}
use Rattle.listing_dump.proofs.SoundLines.{name_cell, row_value}

pub nat_less : (a b : ℕ) → a < b → nat_cmp a b ≡ Less
nat_less a b lt = at (nat_cmp a b) refl (ranked a b (nat_cmp a b) refl)
  where
    at : (o : Ordering) → nat_cmp a b ≡ o → MatchOrdering o (a < b) (a ≡ b) (b < a) → o ≡ Less
    at Less e r = refl
    at Equal e r = absurd (omega (arith, lt, r))
    at Greater e r = absurd (omega (arith, lt, r))

pub then_equal : (a b c : Ordering) → a ≡ Equal → b ≡ Equal → ordering_then a (ordering_then b c) ≡ c
then_equal a b c ea eb = ap (λ x. ordering_then x (ordering_then b c)) ea ∙ ap (λ x. ordering_then x c) eb

module _ (w : Widths) (cells : List ListLine) (up : LinesRise cells) where
  -- of lines of one kind the earlier one has the lesser name
  less_name : (kind : Kind) (a b x y : ℕ) → IsRank w cells kind a x → IsRank w cells kind b y → x < y → bytes_cmp (row_at cells x) (row_at cells y) ≡ Less
  less_name kind a b x y p q lt =
      let low = less_at cells up x y p.line q.line p.there q.there lt in
      let n = name_cell kind p.line p.names in
      let m = name_cell kind q.line q.names in
      let tables : nat_cmp (table_number p.line.table) (table_number q.line.table) ≡ Equal = ap (λ t. nat_cmp (table_number t) (table_number q.line.table)) (n.table ∙ sym m.table) ∙ tied_itself nat_cmp_total (table_number q.line.table) in
      let quals : bytes_cmp p.line.qual q.line.qual ≡ Equal = ap (λ t. bytes_cmp t q.line.qual) (n.qual ∙ sym m.qual) ∙ tied_itself nat_list_cmp_total q.line.qual in
      let rows = row_less (nat_cmp (table_number p.line.table) (table_number q.line.table)) (bytes_cmp p.line.row q.line.row) (bytes_cmp p.line.qual q.line.qual) low tables quals in
      ap (λ r. bytes_cmp r (row_at cells y)) (row_value cells x p.line p.there) ∙ ap (bytes_cmp p.line.row) (row_value cells y q.line q.there) ∙ rows
    where
      row_less : (t r u : Ordering) → ordering_then (ordering_then t r) u ≡ Less → t ≡ Equal → u ≡ Equal → r ≡ Less
      row_less t Less u e te ue = refl
      row_less t Equal u e te ue = let x = sym (ap (λ z. ordering_then (ordering_then z Equal) u) te) ∙ e in let y = sym ue ∙ x in cc
      row_less t Greater u e te ue = let x = sym (ap (λ z. ordering_then (ordering_then z Greater) u) te) ∙ e in cc

  -- names stand as their ranks do
  pub rank_order : (kind : Kind) (a b x y : ℕ) → IsRank w cells kind a x → IsRank w cells kind b y → bytes_cmp (row_at cells x) (row_at cells y) ≡ nat_cmp x y
  rank_order kind a b x y p q = at (nat_cmp x y) refl (ranked x y (nat_cmp x y) refl)
    where
      at : (o : Ordering) → nat_cmp x y ≡ o → MatchOrdering o (x < y) (x ≡ y) (y < x) → bytes_cmp (row_at cells x) (row_at cells y) ≡ o
      at Less e r = less_name kind a b x y p q r
      at Equal e r = ap (λ n. bytes_cmp (row_at cells n) (row_at cells y)) r ∙ tied_itself nat_list_cmp_total (row_at cells y)
      at Greater e r = nat_list_cmp_total.antisymm (row_at cells x) (row_at cells y) ∙ ap ordering_reverse (less_name kind b a y x q p r)

  -- the ranks of tags
  abbrev pub AllRanks : List (ℕ × ℕ) → Type 0
  AllRanks rs = (r : ℕ × ℕ) → Contains rs r → ((k : ℕ) × IsRank w cells TagKey k r.0) × ((v : ℕ) × IsRank w cells TagValue v r.1)

  pair_order : (p q : ℕ × ℕ) → ((k : ℕ) × IsRank w cells TagKey k p.0) × ((v : ℕ) × IsRank w cells TagValue v p.1) → ((k : ℕ) × IsRank w cells TagKey k q.0) × ((v : ℕ) × IsRank w cells TagValue v q.1)
      → tag_list.pair_cmp (row_at cells p.0, row_at cells p.1) (row_at cells q.0, row_at cells q.1) ≡ pair_cmp p q
  pair_order p q a b = λ i. ordering_then (rank_order TagKey a.0.0 b.0.0 p.0 q.0 a.0.1 b.0.1 i) (rank_order TagValue a.1.0 b.1.0 p.1 q.1 a.1.1 b.1.1 i)

  -- lists of tags stand as their ranks do
  pub tags_order : (ps qs : List (ℕ × ℕ)) → AllRanks ps → AllRanks qs → tags_cmp (tags_at cells ps) (tags_at cells qs) ≡ slice_cmp pair_cmp ps qs
  tags_order [] [] a b = refl
  tags_order [] (q ∷ qs) a b = refl
  tags_order (p ∷ ps) [] a b = refl
  tags_order (p ∷ ps) (q ∷ qs) a b =
      let first = pair_order p q (a p (here p ps)) (b q (here q qs)) in
      let rest = tags_order ps qs (λ r c. a r (there p r ps c)) (λ r c. b r (there q r qs c)) in
      λ i. ordering_then (first i) (rest i)

  -- the tags of ranks that rise by key do so
  pub tags_rise : (rs : List (ℕ × ℕ)) → AllRanks rs → AllPairs (λ p q. p.0 < q.0) rs → RiseByKey (tags_at cells rs)
  tags_rise [] all up_ = λ i j d low lt. absurd (omega (arith, lt))
  tags_rise (r ∷ rs) all up_ =
      pairs_cons (λ (p q : Pair). bytes_cmp p.0 q.0 ≡ Less) (row_at cells r.0, row_at cells r.1) (tags_at cells rs)
      (λ t c.
      let m = map_in (λ (x : ℕ × ℕ). (row_at cells x.0, row_at cells x.1)) rs t c in
      let low = pairs_in (λ (p q : ℕ × ℕ). p.0 < q.0) r m.0 rs up_ m.1 in
      let a = (all r (here r rs)).0 in
      let b = (all m.0 (there r m.0 rs m.1)).0 in
      ap (λ (p : Pair). bytes_cmp (row_at cells r.0) p.0) (sym m.2) ∙ rank_order TagKey a.0 b.0 r.0 m.0.0 a.1 b.1 ∙ nat_less r.0 m.0.0 low)
      (tags_rise rs (λ x c. all x (there r x rs c)) (pairs_tail (λ (p q : ℕ × ℕ). p.0 < q.0) r rs up_))
