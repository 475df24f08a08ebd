-- The ids of a row that stood, and their names at any later length.
use Rattle.std.proofs.Common.{◌≡◌, ℕ, ◌≤◌, List, sym, subst, ◌∙◌}
use Rattle.std.specs.Prelude.{Some, Contains}
use Rattle.list_lemmas.proofs.BoolTests.{same_Some}
use Rattle.tsd_base.specs.declared.kinds.Kind.{Kind}
use Rattle.tsd_base.specs.declared.kinds.Kind.TheVariants.{Metric, TagKey, TagValue}
use Rattle.tsd_base.specs.Alphabet.{IsName}
use Rattle.tsd_base.specs.TagList.{Pair}
use Rattle.row_key.specs.declared.widths.Widths.{Widths}
use Rattle.row_key.specs.declared.keys.RowKey.{RowKey}
use Rattle.row_key.specs.Key.{IsKey, key_bytes}
use Rattle.qual_codec.specs.declared.cells.Dot.{Dot}
use Rattle.cell_model.specs.Store.{value_at}
use Rattle.cell_model.specs.History.{History, first, store_after}
use Rattle.cell_model.specs.IdRows.{id_of, name_of}
use Rattle.cell_model.specs.Lawful.{IsLawful}
use Rattle.cell_laws.specs.Laws.{IsTaken}
use Rattle.cell_model.specs.Readings.{Reading, point_row, IsNamed, DotReads}
use Rattle.row_scan.proofs.Lower.{carry, first_lawful, one_key, keeps_id, names_back, row_ids_are_taken}
use Rattle.row_scan.proofs.Whole.{begins_firsts}

-- the id is that of a name, which is the id's
pub record IsOf (h : History) (kind : Kind) (id : ℕ) : Type 0 where
  pub name : List ℕ
  pub is_name : IsName name
  pub id_is : id_of h kind name ≡ Some id
  pub name_is : name_of h kind id ≡ Some name

-- the row has a key, whose ids are so
pub record StoodRow (h : History) (row : List ℕ) : Type 0 where
  pub key : RowKey
  pub is_key : IsKey (store_after h).widths key
  pub row_is : row ≡ key_bytes (store_after h).widths key
  pub metric : IsOf h Metric key.metric
  pub tags : (i : ℕ × ℕ) → Contains key.pairs.items i → IsOf h TagKey i.0 × IsOf h TagValue i.1

taken_later : (h : History) (n m : ℕ) (kind : Kind) (id : ℕ) → IsLawful h → n ≤ m → IsTaken (first n h) kind id → IsOf (first m h) kind id
taken_later h n m kind id l le t =
    let later = keeps_id h n m kind t.name id l t.is_name le t.id_is in
    record { name = t.name; is_name = t.is_name; id_is = later; name_is = names_back (first m h) kind t.name id (first_lawful h m l) t.is_name later }

-- a row that stood is so at any later length
pub row_stood : (h : History) (n m : ℕ) (row qual value : List ℕ) → IsLawful h → n ≤ m → value_at (store_after (first n h)) (point_row row) qual ≡ Some value → StoodRow (first m h) row
row_stood h n m row qual value l le is =
    let t = row_ids_are_taken (first n h) row qual value (first_lawful h n l) is in
    let b = begins_firsts n m h le in
    record {
      key = t.0;
      is_key = carry b (λ (w : Widths). IsKey w t.0) t.1;
      row_is = carry b (λ (w : Widths). row ≡ key_bytes w t.0) t.2;
      metric = taken_later h n m Metric t.0.metric l le t.3.metric;
      tags = λ i c. let w = t.3.tags i c in (taken_later h n m TagKey i.0 l le w.0, taken_later h n m TagValue i.1 l le w.1);
    }

-- the name of such an id has the id
id_back : (h : History) (kind : Kind) (id : ℕ) (name : List ℕ) → IsOf h kind id → name_of h kind id ≡ Some name → id_of h kind name ≡ Some id
id_back h kind id name o is = let same : o.name ≡ name = same_Some o.name name (sym o.name_is ∙ is) in subst (λ x. id_of h kind x ≡ Some id) same o.id_is

stood_key : (h : History) (row : List ℕ) (d : Dot) (r : Reading) → (s : StoodRow h row) → (x : DotReads (store_after h).widths (name_of h) row d r) → s.key ≡ x.key
stood_key h row d r s x = one_key (store_after h).widths s.key x.key s.is_key x.is_key (sym s.row_is ∙ x.row_is)

-- the names of a reading have the ids of its row
pub metric_id : (h : History) (row : List ℕ) (d : Dot) (r : Reading) → StoodRow h row → (x : DotReads (store_after h).widths (name_of h) row d r) → id_of h Metric r.metric ≡ Some x.key.metric
metric_id h row d r s x = id_back h Metric x.key.metric r.metric (subst (λ (k : RowKey). IsOf h Metric k.metric) (stood_key h row d r s x) s.metric) x.metric_is

pub pair_ids : (h : History) (row : List ℕ) (d : Dot) (r : Reading) → StoodRow h row → (x : DotReads (store_after h).widths (name_of h) row d r) → (p : ℕ × ℕ) → Contains x.key.pairs.items p → (t : Pair) → IsNamed (name_of h) p t
    → (id_of h TagKey t.0 ≡ Some p.0) × (id_of h TagValue t.1 ≡ Some p.1)
pair_ids h row d r s x p c t named =
    let w = s.tags p (subst (λ (k : RowKey). Contains k.pairs.items p) (sym (stood_key h row d r s x)) c) in
    (id_back h TagKey p.0 t.0 w.0 named.0, id_back h TagValue p.1 t.1 w.1 named.1)
