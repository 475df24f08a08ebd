-- What a read of an id's row shows, where a name is known to have the id.
use Rattle.std.proofs.Common.{◌≡◌, inl, inr, ℕ, ◌-◌, List, [], refl, sym, ap, subst, ◌∙◌, arith}
use Rattle.std.specs.Prelude.{Some, None, Result, Ok, Err, IfOk}
use Rattle.tsd_base.specs.declared.kinds.Kind.{Kind}
use Rattle.qual_codec.specs.declared.cells.Cell.{Cell}
use Rattle.cell_model.specs.declared.row.Row.{Row}
use Rattle.cell_model.specs.declared.events.Step.TheVariants.{Read}
use Rattle.cell_model.specs.declared.events.Reply.TheVariants.{Shown}
use Rattle.cell_model.specs.declared.answers.RowsFault.{RowsFault}
use Rattle.cell_model.specs.declared.answers.RowsFault.TheVariants as rows
use Rattle.cell_model.specs.KindWidths.{Widths}
use Rattle.cell_model.specs.Store.{value_among, value_at, cells_of}
use Rattle.cell_model.specs.Machine.{kind_qual}
use Rattle.cell_model.specs.History.{History, first, store_after}
use Rattle.cell_model.specs.IdRows.{id_row, id_of}
use Rattle.cell_model.specs.Seen.{Seen, Stepped, IsPossible, KnowsCell}
use Rattle.cell_model.specs.Seen.Shows.{by_read}
use Rattle.uid_table.specs.Shown.{KnowsName, HasShownName}
use Rattle.uid_table.specs.IdSteps.{MadeSo, NameMade, IsNamed}
use Rattle.uid_table.proofs.Shows.{with_base}
use Rattle.cell_laws.proofs.CallerLemmas.{begins_first, carry, seen_back, first_lawful, each_entry, keeps_id, names_back, first_fits, step_extends, step_made, shown_name}
use Rattle.cell_model.proofs.CallerLemmas.{value_among-cells_of}

same_cells : (a b : List Cell) → Shown a ≡ Shown b → a ≡ b
same_cells a b e = cc

same_name : (a b : List ℕ) → Some a ≡ Some b → a ≡ b
same_name a b e = cc

-- the read shows a name
pub name_there : (old new : Seen) (kind : Kind) (id : ℕ) (cells : List Cell) → Stepped old (Read (id_row old.base.widths kind id)) (Shown cells) new → IsPossible new → KnowsName old kind id
    → (name : List ℕ) × (value_among cells (kind_qual kind) ≡ Some name)
name_there old new kind id cells step p knows =
    let h = p.history in
    let before : History = first (new.length - 1) h in
    let entry = each_entry h new.length _ p.lawful (p.fits.seen _ _ step.stepped) in
    let fits = (step_extends old new _ _ step).fits h p.fits in
    let old_fits = first_fits old h fits in
    let name = knows (first old.length h) (first_lawful h old.length p.lawful) old_fits in
    let kept = keeps_id h old.length (new.length - 1) kind name.0 id p.lawful name.1 (let lt = step.length in omega (arith, lt)) name.2 in
    let IsThere : Widths → Type 0 = λ w. value_at (store_after before) (id_row w kind id) (kind_qual kind) ≡ Some name.0 in
    let back = seen_back fits IsThere (carry (begins_first (new.length - 1) h) IsThere (names_back before kind name.0 id (first_lawful h (new.length - 1) p.lawful) name.1 kept)) in
    let row = id_row old.base.widths kind id in
    let same : cells ≡ cells_of (store_after before) row = same_cells _ _ entry.reply in
    (name.0, ap (λ (xs : List Cell). value_among xs (kind_qual kind)) same ∙ sym (value_among-cells_of (store_after before) row (kind_qual kind)) ∙ back)

-- and what it shows is the name
pub has_shown_name : (old new : Seen) (kind : Kind) (id : ℕ) (cells : List Cell) (name : List ℕ) → Stepped old (Read (id_row old.base.widths kind id)) (Shown cells) new → IsPossible new → KnowsName old kind id
    → value_among cells (kind_qual kind) ≡ Some name → HasShownName new kind id name
has_shown_name old new kind id cells name step p knows shows =
    let row = id_row new.base.widths kind id in
    let here : Stepped old (Read row) (Shown cells) new = with_base old new (λ w. Stepped old (Read (id_row w kind id)) (Shown cells) new) step.base step in
    let known : KnowsCell new row (kind_qual kind) name = (new.length, _, here.stepped, by_read shows) in
    record {
      is_name = (shown_name new p.history kind id name p.lawful p.fits known).0;
      known = known;
      stands = λ later ext h l f.
          let fits = ext.fits h f in
          let stands = (shown_name new h kind id name l fits known).1 in
          let of = knows h l ((step_extends old new _ _ step).fits h fits) in
          let same = same_name _ _ (sym (names_back h kind of.0 id l of.1 of.2) ∙ stands) in
          (stands, subst (λ n. id_of h kind n ≡ Some id) same of.2);
    }

-- a read under another name of its row
pub reread : (old new : Seen) (row row' : Row) (cells : List Cell) → row ≡ row' → Stepped old (Read row) (Shown cells) new → Stepped old (Read row') (Shown cells) new
reread old new row row' cells is step = subst (λ (r : Row). Stepped old (Read r) (Shown cells) new) is step

-- a read that wasn't made
pub no_name : (w : Widths) (kind : Kind) (id : ℕ) (e : RowsFault) → NameMade w kind id (Err e) []
no_name w kind id rows.OutOfMemory = inl refl
no_name w kind id rows.Stopped = refl

-- a read that was, and what became of the name
pub name_made : (old new : Seen) (kind : Kind) (id : ℕ) (cells : List Cell) (name : List ℕ) → Stepped old (Read (id_row old.base.widths kind id)) (Shown cells) new → IsPossible new → value_among cells (kind_qual kind) ≡ Some name
    → (r : Result (List ℕ) RowsFault) → IsNamed name r → MadeSo old (NameMade old.base.widths kind id r) new
name_made old new kind id cells name step p shows (Ok n) same = (_, step_made old new _ _ step p, inr (_, refl, record { cells = cells; did = (refl, refl); shows = shows ∙ ap (λ x. Some x) (sym same) }))
name_made old new kind id cells name step p shows (Err rows.OutOfMemory) is = (_, step_made old new _ _ step p, inr (name, (_, refl, record { cells = cells; did = (refl, refl); shows = shows })))
name_made old new kind id cells name step p shows (Err rows.Stopped) is = absurd is

pub named_shows : (P : List ℕ → Type 0) (bytes : List ℕ) (r : Result (List ℕ) RowsFault) → IsNamed bytes r → P bytes → IfOk r P
named_shows P bytes (Ok n) same p = subst P (sym same) p
named_shows P bytes (Err e) same p = tt

pub none_shown : (name : List ℕ) → None ≡ Some name → ⊥
none_shown name e = cc
