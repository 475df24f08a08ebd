use Rattle.std.proofs.Common.{◌≡◌, ℕ, ◌+◌, ◌≤◌, ◌<◌, Bool, true, false, List, refl, sym, ap, subst, ◌∙◌, arith, rules}
use Rattle.std.specs.Prelude.{Option, None, Some, option_and_then, nat_le, if◌then◌else◌}
use Rattle.tsd_base.specs.declared.kinds.Kind.{Kind}
use Rattle.cell_model.specs.Store.{value_at}
use Rattle.cell_model.specs.Machine.{kind_qual}
use Rattle.cell_model.specs.History.{History, len, store_after, first}
use Rattle.cell_laws.proofs.Beginnings.{Begins}
use Rattle.cell_model.specs.History.History.{Base, Then}
use Rattle.cell_laws.proofs.Beginnings.Begins.{whole, longer}
use Rattle.tsd_base.specs.Alphabet.{IsName}
use Rattle.cell_model.specs.IdRows.{name_row, id_number, name_in, id_of}
use Rattle.cell_model.specs.Lawful.{IsLawful}
use Rattle.cell_laws.specs.Laws.{KeepsId, OneName, NamesBack}
pub use Rattle.cell_model.proofs.CallerLemmas.{number-bytes}
use Rattle.cell_laws.proofs.Keeps.{lawful_begins}
use Rattle.list_lemmas.proofs.BoolTests.{not_Some, same_Some}
use Rattle.cell_laws.proofs.Ids.{Reversed, value_keeps, forward_uid, reversed}

-- a forward cell
pub record Forward (h : History) (kind : Kind) (name : List ℕ) (id : ℕ) : Type 0 where
  pub value : List ℕ
  pub is : value_at (store_after h) (name_row name) (kind_qual kind) ≡ Some value
  pub back : Reversed (store_after h) kind name value
  pub id_is : back.id ≡ id

forward_at : (h : History) (kind : Kind) (name : List ℕ) (id : ℕ) → IsLawful h → IsName name
    → (o : Option (List ℕ)) → value_at (store_after h) (name_row name) (kind_qual kind) ≡ o → option_and_then id_number o ≡ Some id → Forward h kind name id
forward_at h kind name id l n None is e = absurd (not_Some id (sym e))
forward_at h kind name id l n (Some v) is e =
    let r = reversed h kind name v l n is in
    record { value = v; is = is; back = r; id_is = same_Some _ _ (sym (ap id_number r.value_is ∙ number-bytes (store_after h).widths kind r.id r.most) ∙ e) }

pub forward : (h : History) (kind : Kind) (name : List ℕ) (id : ℕ) → IsLawful h → IsName name → id_of h kind name ≡ Some id → Forward h kind name id
forward h kind name id l n e = forward_at h kind name id l n _ refl e

pub begins_first : (n : ℕ) (h : History) → Begins (first n h) h
begins_first n (Base base) = whole
begins_first n (Then h e) = elim (nat_le (len h + 1) n) as (λ b. Begins (if b then Then h e else first n h) (Then h e)) [ true ↦ whole | false ↦ longer (begins_first n h) ]

-- an id stays
pub id_keeps : {h0 h : History} (kind : Kind) (name : List ℕ) (id : ℕ) → Begins h0 h → IsLawful h → IsName name → id_of h0 kind name ≡ Some id → id_of h kind name ≡ Some id
id_keeps {h0} {h} kind name id b l n is =
    let f = forward h0 kind name id (lawful_begins b l) n is in
    ap (option_and_then id_number) (value_keeps (name_row name) (kind_qual kind) f.value b l (forward_uid name (kind_qual kind) n) f.is)
    ∙ sym (ap (option_and_then id_number) f.is) ∙ is

pub first_first : (n m : ℕ) (h : History) → n ≤ m → first n (first m h) ≡ first n h
first_first n m (Base base) le = refl
first_first n m (Then h e) le = at (nat_le (len h + 1) m) refl (first_first n m h le)
  where
    at : (b : Bool) → nat_le (len h + 1) m ≡ b → first n (first m h) ≡ first n h → first n (if b then Then h e else first m h) ≡ first n (Then h e)
    at true t go = refl
    at false t go = inner (nat_le (len h + 1) n) refl
      where
        inner : (b : Bool) → nat_le (len h + 1) n ≡ b → first n (first m h) ≡ (if b then Then h e else first n h)
        inner true u = let up : len h + 1 ≤ n = search (rules, u) in let down : m < len h + 1 = search (rules, t) in absurd (omega (arith, up, down, le))
        inner false u = go

pub keeps_id : KeepsId
keeps_id h n m kind name id l name_ok le is =
    id_keeps kind name id (subst (λ x. Begins x (first m h)) (first_first n m h le) (begins_first n (first m h))) (lawful_begins (begins_first m h) l) name_ok is

pub names_back : NamesBack
names_back h kind name id l n is =
    let f = forward h kind name id l n is in ap (name_in (store_after h) kind) (sym f.id_is) ∙ f.back.name_is

pub one_name : OneName
one_name h kind a b id l na nb ia ib = same_Some _ _ (sym (names_back h kind a id l na ia) ∙ names_back h kind b id l nb ib)
