-- A caller's entries in a part of a history.
use Rattle.std.proofs.Common.{◌≡◌, ℕ, ◌+◌, ◌≤◌, ◌<◌, Bool, true, false, cond, List, [], ◌∷◌, ◌++◌, refl, sym, ap, subst, ◌∙◌, append_assoc, arith, rules}
use Rattle.std.specs.Prelude.{Some, Contains, nat_eq, nat_lt, nat_le, ◌&&◌, if◌then◌else◌}
use Rattle.std.proofs.lemmas.List.Elements.{Contains-append_left, Contains-append_right}
use Rattle.cell_model.specs.declared.events.Entry.{Entry}
use Rattle.cell_model.specs.History.{History, len, entry_at}
use Rattle.cell_model.specs.History.History.{Base, Then}
use Rattle.cell_model.specs.declared.events.Placed.{Placed}
use Rattle.list_lemmas.proofs.BoolTests.{not_Some, nat_eq_is}
use Rattle.list_lemmas.proofs.ListMembers.{here}
use Rattle.cell_laws.proofs.Entries.{bounded, entry_at-last, entry_at-more}
use Rattle.cell_model.specs.Deeds.{deeds, placed}

-- whether the place is in the range and the caller is the one
abbrev pub inside : ℕ → ℕ → ℕ → ℕ → ℕ → Bool
inside from to caller place who = nat_lt from place && nat_le place to && nat_eq who caller

pub out_before : (from to caller place who : ℕ) → place ≤ from → inside from to caller place who ≡ false
out_before from to caller place who le = grind (arith)

pub out_behind : (from to caller place who : ℕ) → to < place → inside from to caller place who ≡ false
out_behind from to caller place who lt = grind (arith)

pub same_front : (from to end caller place who : ℕ) → place ≤ to → to ≤ end → inside from end caller place who ≡ inside from to caller place who
same_front from to end caller place who le more = grind (arith)

pub same_back : (from to end caller place who : ℕ) → from ≤ to → to < place → inside from end caller place who ≡ inside to end caller place who
same_back from to end caller place who le lt = grind (arith)

pub deeds_beyond : (h : History) (caller from to : ℕ) → len h ≤ from → deeds h caller from to ≡ []
deeds_beyond (Base b) caller from to le = refl
deeds_beyond (Then h e) caller from to le =
    let first = deeds_beyond h caller from to (omega (arith, le)) in
    let last = out_before from to caller (len h + 1) e.caller le in
    ap (λ xs. xs ++ cond (inside from to caller (len h + 1) e.caller) (placed (len h + 1) e ∷ []) []) first ∙ ap (λ b. cond b (placed (len h + 1) e ∷ []) []) last

no_more : (xs : List Placed) → xs ++ [] ≡ xs
no_more xs = search rules

pub deeds_joined : (h : History) (caller from to end : ℕ) → from ≤ to → to ≤ end → deeds h caller from end ≡ deeds h caller from to ++ deeds h caller to end
deeds_joined (Base base) caller from to end a b = refl
deeds_joined (Then h e) caller from to end a b = at (deeds_joined h caller from to end a b) (nat_le (len h + 1) to) refl
  where
    one : Bool → List Placed
    one t = cond t (placed (len h + 1) e ∷ []) []

    at : deeds h caller from end ≡ deeds h caller from to ++ deeds h caller to end → (t : Bool) → nat_le (len h + 1) to ≡ t → deeds (Then h e) caller from end ≡ deeds (Then h e) caller from to ++ deeds (Then h e) caller to end
    at go true eq =
        let low : len h + 1 ≤ to = grind (arith) in
        let none : deeds (Then h e) caller to end ≡ [] = deeds_beyond (Then h e) caller to end low in
        let back : deeds h caller to end ≡ [] = deeds_beyond h caller to end (omega (arith, low)) in
        let front : deeds h caller from end ≡ deeds h caller from to = go ∙ ap (λ xs. deeds h caller from to ++ xs) back ∙ no_more (deeds h caller from to) in
        let last = same_front from to end caller (len h + 1) e.caller low b in
        ap (λ xs. xs ++ one (inside from end caller (len h + 1) e.caller)) front ∙ ap (λ t. deeds h caller from to ++ one t) last ∙ sym (ap (λ xs. deeds (Then h e) caller from to ++ xs) none ∙ no_more (deeds (Then h e) caller from to))
    at go false eq =
        let high : to < len h + 1 = grind (arith) in
        let gone = out_behind from to caller (len h + 1) e.caller high in
        let last = same_back from to end caller (len h + 1) e.caller a high in
        let front : deeds (Then h e) caller from to ≡ deeds h caller from to = ap (λ t. deeds h caller from to ++ one t) gone ∙ no_more (deeds h caller from to) in
        ap (λ xs. xs ++ one (inside from end caller (len h + 1) e.caller)) go ∙ ap (λ t. (deeds h caller from to ++ deeds h caller to end) ++ one t) last
        ∙ append_assoc (deeds h caller from to) (deeds h caller to end) (one (inside to end caller (len h + 1) e.caller)) ∙ sym (ap (λ xs. xs ++ deeds (Then h e) caller to end) front)

-- where this caller has no entry
pub deeds_none : (h : History) (caller from to : ℕ) → ((place : ℕ) (e : Entry) → from < place → place ≤ to → e.caller ≡ caller → entry_at h place ≡ Some e → ⊥) → deeds h caller from to ≡ []
deeds_none (Base b) caller from to never = refl
deeds_none (Then h e) caller from to never = ap (λ xs. xs ++ cond (inside from to caller (len h + 1) e.caller) (placed (len h + 1) e ∷ []) []) (deeds_none h caller from to (λ place x a b c is. never place x a b c (entry_at-more h e x place is))) ∙ at _ refl
  where
    at : (t : Bool) → inside from to caller (len h + 1) e.caller ≡ t → cond t (placed (len h + 1) e ∷ []) [] ≡ []
    at true eq = let a : from < len h + 1 = grind (arith) in let b : len h + 1 ≤ to = grind (arith) in let c : e.caller ≡ caller = grind (arith) in absurd (never (len h + 1) e a b c (entry_at-last h e))
    at false eq = refl

-- where it has one alone, at the end
pub deeds_one : (h : History) (caller from to : ℕ) (e : Entry) → from < to → e.caller ≡ caller → entry_at h to ≡ Some e
    → ((place : ℕ) (x : Entry) → from < place → place < to → x.caller ≡ caller → entry_at h place ≡ Some x → ⊥) → deeds h caller from to ≡ placed to e ∷ []
deeds_one (Base b) caller from to e lt own is never = absurd (not_Some e (sym is))
deeds_one (Then h last) caller from to e lt own is never =
    at (λ got. deeds_one h caller from to e lt own got (λ place x a b c st. never place x a b c (entry_at-more h last x place st))) (nat_eq to (len h + 1)) refl is
  where
    at : (entry_at h to ≡ Some e → deeds h caller from to ≡ placed to e ∷ []) → (t : Bool) → nat_eq to (len h + 1) ≡ t → cond t (Some last) (entry_at h to) ≡ Some e → deeds (Then h last) caller from to ≡ placed to e ∷ []
    at rest true eq got =
        let same : to ≡ len h + 1 = nat_eq_is _ _ eq in
        let it : last ≡ e = grind (arith, got) in
        let front : deeds h caller from to ≡ [] = deeds_none h caller from to (λ place x a b c st. let low = bounded h place x st in never place x a (omega (arith, low, same)) c (entry_at-more h last x place st)) in
        let yes : inside from to caller (len h + 1) last.caller ≡ true = (let own' : last.caller ≡ caller = ap (λ (x : Entry). x.caller) it ∙ own in grind (arith)) in
        ap (λ xs. xs ++ cond (inside from to caller (len h + 1) last.caller) (placed (len h + 1) last ∷ []) []) front ∙ ap (λ t. cond t (placed (len h + 1) last ∷ []) []) yes
        ∙ ap (λ n. placed n last ∷ []) (sym same) ∙ ap (λ x. placed to x ∷ []) it
    at rest false eq got =
        let low = bounded h to e got in
        let go = rest got in
        let gone = out_behind from to caller (len h + 1) last.caller (omega (arith, low)) in
        ap (λ xs. xs ++ cond (inside from to caller (len h + 1) last.caller) (placed (len h + 1) last ∷ []) []) go ∙ ap (λ t. (placed to e ∷ []) ++ cond t (placed (len h + 1) last ∷ []) []) gone

is_inside : (from to caller place who : ℕ) → from < place → place ≤ to → who ≡ caller → inside from to caller place who ≡ true
is_inside from to caller place who lt le is = grind (arith)

-- an entry of the caller is among those that it made
pub deed_of : (h : History) (caller from to place : ℕ) (e : Entry) → from < place → place ≤ to → e.caller ≡ caller → entry_at h place ≡ Some e → Contains (deeds h caller from to) (placed place e)
deed_of (Base b) caller from to place e lt le own is = absurd (not_Some e (sym is))
deed_of (Then h last) caller from to place e lt le own is = at (nat_eq place (len h + 1)) refl is (deed_of h caller from to place e lt le own)
  where
    one : Bool → List Placed
    one t = cond t (placed (len h + 1) last ∷ []) []

    at : (t : Bool) → nat_eq place (len h + 1) ≡ t → (if t then Some last else entry_at h place) ≡ Some e → (entry_at h place ≡ Some e → Contains (deeds h caller from to) (placed place e)) → Contains (deeds (Then h last) caller from to) (placed place e)
    at true eq got go =
        let number : place ≡ len h + 1 = nat_eq_is place (len h + 1) eq in
        let it : last ≡ e = cc in
        let is_in = is_inside from to caller (len h + 1) last.caller (subst (λ n. from < n) number lt) (subst (λ n. n ≤ to) number le) (ap (λ (x : Entry). x.caller) it ∙ own) in
        let same : placed (len h + 1) last ≡ placed place e = λ j. placed (sym number j) (it j) in
        Contains-append_right (deeds h caller from to) (one (inside from to caller (len h + 1) last.caller)) (placed place e)
        (subst (λ t. Contains (one t) (placed place e)) (sym is_in) (subst (Contains (placed (len h + 1) last ∷ [])) same (here (placed (len h + 1) last) [])))
    at false eq got go = Contains-append_left (deeds h caller from to) (one (inside from to caller (len h + 1) last.caller)) (placed place e) (go got)
