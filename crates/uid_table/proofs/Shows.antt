-- What a look at a name's cell and the claims of its id show.
use Rattle.std.proofs.Common.{◌≡◌, ℕ, List, length, sym, ap, subst, ◌∙◌}
use Rattle.std.specs.Prelude.{Some}
use Rattle.tsd_base.specs.declared.kinds.Kind.{Kind}
use Rattle.tsd_base.specs.Alphabet.{IsName}
use Rattle.row_key.proofs.CallerLemmas.{length_bytes}
use Rattle.qual_codec.specs.declared.cells.Cell.{Cell}
use Rattle.cell_model.specs.declared.row.Row.{Row}
use Rattle.cell_model.specs.declared.events.Step.TheVariants.{Read, Claim}
use Rattle.cell_model.specs.declared.events.Reply.TheVariants.{Shown, ClaimReply}
use Rattle.cell_model.specs.declared.answers.Claimed.TheVariants.{Done, Held}
use Rattle.cell_model.specs.KindWidths.{Widths, IsKindId, IsWidth, kind_bytes, width_of}
use Rattle.cell_model.specs.Store.{Store, value_among}
use Rattle.cell_model.specs.Machine.{kind_qual}
use Rattle.cell_model.specs.IdRows.{name_row, id_number}
use Rattle.cell_model.specs.Seen.{Seen, Stepped, IsPossible, KnowsCell}
use Rattle.cell_model.specs.Seen.Shows.{by_read, by_claim, by_held}
use Rattle.cell_model.specs.Deeds.{Extends}
use Rattle.uid_table.specs.Shown.{HasShown}
use Rattle.cell_model.proofs.CallerLemmas.{kind_fits, number-bytes}
use Rattle.cell_laws.proofs.CallerLemmas.{shown_id, extends_joined}

-- what holds with the widths of a base holds with those of the same one
pub with_base : (s t : Seen) (P : Widths → Type 0) → t.base ≡ s.base → P s.base.widths → P t.base.widths
with_base s t P e x = subst (λ (b : Store). P b.widths) (sym e) x

-- a cell that was shown is the id of its name
pub record ShownId (s : Seen) (kind : Kind) (name value : List ℕ) : Type 0 where
  pub id : ℕ
  pub value_is : value ≡ kind_bytes s.base.widths kind id
  pub number : id_number value ≡ Some id
  pub shown : HasShown s kind name id

pub has_shown : (s : Seen) (kind : Kind) (name : List ℕ) (id : ℕ) → IsKindId s.base.widths kind id → IsName name → KnowsCell s (name_row name) (kind_qual kind) (kind_bytes s.base.widths kind id) → HasShown s kind name id
has_shown s kind name id is n known = record {
  is_id = is;
  is_name = n;
  known = known;
  stands = λ later ext h l f. let st = shown_id s h kind name (kind_bytes s.base.widths kind id) l (ext.fits h f) n known in st.4 ∙ sym st.3 ∙ number-bytes s.base.widths kind id is.1;
}

pub shown_cell : (s : Seen) (kind : Kind) (name value : List ℕ) → IsPossible s → IsName name → KnowsCell s (name_row name) (kind_qual kind) value → ShownId s kind name value
shown_cell s kind name value p n known =
    let st = shown_id s p.history kind name value p.lawful p.fits n known in
    record { id = st.0; value_is = st.2; number = st.3; shown = has_shown s kind name st.0 st.1 n (subst (λ v. KnowsCell s (name_row name) (kind_qual kind) v) st.2 known) }

-- a cell that a read showed
pub looked : (old new : Seen) (kind : Kind) (row : Row) (cells : List Cell) (value : List ℕ) → Stepped old (Read row) (Shown cells) new → IsPossible new → row ≡ name_row row.bytes → IsName row.bytes
    → value_among cells (kind_qual kind) ≡ Some value → ShownId new kind row.bytes value
looked old new kind row cells value step p is n shows =
    let known : KnowsCell new row (kind_qual kind) value = (new.length, _, step.stepped, by_read shows) in
    shown_cell new kind row.bytes value p n (subst (λ (r : Row). KnowsCell new r (kind_qual kind) value) is known)

-- a claim that was done, or found its cell held
pub claimed_cell : (old new : Seen) (row : Row) (qual value : List ℕ) → Stepped old (Claim row qual value) (ClaimReply Done) new → KnowsCell new row qual value
claimed_cell old new row qual value step = (new.length, _, step.stepped, by_claim)

pub held_cell : (old new : Seen) (row : Row) (qual value held : List ℕ) → Stepped old (Claim row qual value) (ClaimReply (Held held)) new → KnowsCell new row qual held
held_cell old new row qual value held step = (new.length, _, step.stepped, by_held)

-- a claim of the name with the id, which was done
pub claim_shows : (old new : Seen) (kind : Kind) (name : List ℕ) (id : ℕ) → IsKindId old.base.widths kind id → IsName name
    → Stepped old (Claim (name_row name) (kind_qual kind) (kind_bytes old.base.widths kind id)) (ClaimReply Done) new → HasShown new kind name id
claim_shows old new kind name id is n step =
    let known = claimed_cell old new _ _ _ step in
    has_shown new kind name id (with_base old new (λ w. IsKindId w kind id) step.base is) n (with_base old new (λ w. KnowsCell new (name_row name) (kind_qual kind) (kind_bytes w kind id)) step.base known)

same_Some : (x y : ℕ) → Some x ≡ Some y → x ≡ y
same_Some x y e = cc

-- the number that such a cell reads as is the id
pub record ReadsId (s : Seen) (kind : Kind) (name value : List ℕ) (id : ℕ) : Type 0 where
  pub value_is : value ≡ kind_bytes s.base.widths kind id
  pub shown : HasShown s kind name id

pub reads_id : (s : Seen) (kind : Kind) (name value read : List ℕ) (id : ℕ) → ShownId s kind name value → read ≡ value → id_number read ≡ Some id → ReadsId s kind name value id
reads_id s kind name value read id x same number =
    let is : x.id ≡ id = same_Some _ _ (sym x.number ∙ ap id_number (sym same) ∙ number) in
    subst (λ (n : ℕ). ReadsId s kind name value n) is (record { value_is = x.value_is; shown = x.shown })

-- and it has as many bytes as the ids of a kind may have
pub has_width : (s : Seen) (kind : Kind) (name value read : List ℕ) → ShownId s kind name value → read ≡ value → IsWidth (length read)
has_width s kind name value read x same =
    let long : length read ≡ width_of s.base.widths kind = ap length (same ∙ x.value_is) ∙ length_bytes (width_of s.base.widths kind) x.id in
    subst IsWidth (sym long) (kind_fits s.base.widths kind)

-- what was shown stays shown
pub shown_kept : (s t : Seen) (kind : Kind) (name : List ℕ) (id : ℕ) → Extends s t → HasShown s kind name id → HasShown t kind name id
shown_kept s t kind name id e h = record {
  is_id = with_base s t (λ w. IsKindId w kind id) e.base h.is_id;
  is_name = h.is_name;
  known = let k = with_base s t (λ w. KnowsCell s (name_row name) (kind_qual kind) (kind_bytes w kind id)) e.base h.known in (k.0, k.1, e.kept k.0 k.1 k.2, k.3);
  stands = λ later more. h.stands later (extends_joined s t later e more);
}
