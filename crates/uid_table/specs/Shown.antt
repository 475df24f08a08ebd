-- What a caller has seen of the id of a name.
use Rattle.std.specs.Prelude.{◌≡◌, ℕ, List, Some}
use Rattle.tsd_base.specs.declared.kinds.Kind.{Kind}
use Rattle.tsd_base.specs.Alphabet.{IsName}
use Rattle.cell_model.specs.KindWidths.{IsKindId, kind_bytes}
use Rattle.cell_model.specs.Machine.{kind_qual}
use Rattle.cell_model.specs.History.{History}
use Rattle.cell_model.specs.IdRows.{name_row, id_row, id_of, name_of}
use Rattle.cell_model.specs.Lawful.{claimed}
use Rattle.cell_model.specs.Seen.{Seen, Saw, KnowsCell, InEach}
use Rattle.cell_model.specs.Deeds.{Extends}

-- so it is in each lawful history that fits what the caller has seen, or sees later
abbrev pub InEachLater : Seen → (History → Type 0) → Type 0
InEachLater s P = (later : Seen) → Extends s later → InEach later P

-- the caller has seen an entry that shows the id of the name, which stays the name's
pub record HasShown (s : Seen) (kind : Kind) (name : List ℕ) (id : ℕ) : Type 0 where
  pub is_id : IsKindId s.base.widths kind id
  pub is_name : IsName name
  pub known : KnowsCell s (name_row name) (kind_qual kind) (kind_bytes s.base.widths kind id)
  pub stands : InEachLater s (λ h. id_of h kind name ≡ Some id)

-- the caller has seen the claim of the id for the name, by whomever
abbrev pub HasReversed : Seen → Kind → List ℕ → ℕ → Type 0
HasReversed s kind name id = (place : ℕ) × (who : ℕ) × Saw s place (claimed who (id_row s.base.widths kind id) (kind_qual kind) name)

-- the caller knows that a name has this id
abbrev pub KnowsName : Seen → Kind → ℕ → Type 0
KnowsName s kind id = InEach s (λ h. (name : List ℕ) × IsName name × (id_of h kind name ≡ Some id))

-- the caller has seen an entry that shows the name of the id, and either stays the other's
pub record HasShownName (s : Seen) (kind : Kind) (id : ℕ) (name : List ℕ) : Type 0 where
  pub is_name : IsName name
  pub known : KnowsCell s (id_row s.base.widths kind id) (kind_qual kind) name
  pub stands : InEachLater s (λ h. (name_of h kind id ≡ Some name) × (id_of h kind name ≡ Some id))
