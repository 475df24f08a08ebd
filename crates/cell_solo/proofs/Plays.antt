-- Turns make a lawful history, of which the caller whose turn it is has seen the whole.
use Rattle.std.proofs.Common.{◌≡◌, ◌≢◌, ◌⊎◌, inl, inr, ℕ, zero, suc, ◌+◌, ◌≤◌, Bool, true, false, List, [], ◌∷◌, ◌++◌, length, refl, sym, ap, subst, ◌∙◌, arith}
use Rattle.std.specs.Prelude.{Some, nat_eq, if◌then◌else◌, Contains, IsTrue, count_by, cond, Result, Ok, Err, OnOk, IfErr}
use Rattle.std.proofs.lemmas.List.Sums.{sum_by-cons}
use Rattle.row_key.specs.declared.tables.Table.{Table}
use Rattle.row_key.specs.declared.tables.Table.TheVariants.{Ids, Names, Points}
use Rattle.cell_model.specs.declared.row.Row.{Row}
use Rattle.cell_model.specs.declared.events.Step.{Step}
use Rattle.cell_model.specs.declared.events.Step.TheVariants.{Open, Read, NextRow, Bump, Claim, PutPoint, AppendPoint, PutMerged, DropCells}
use Rattle.cell_model.specs.declared.events.Reply.{Reply}
use Rattle.cell_model.specs.declared.events.Entry.{Entry}
use Rattle.cell_model.specs.declared.events.Placed.{Placed}
use Rattle.cell_model.specs.Store.{Store}
use Rattle.cell_model.specs.Listed.{store_of}
use Rattle.cell_model.specs.Machine.{after, reply_of, counter_row}
use Rattle.cell_model.specs.KindWidths.{Widths}
use Rattle.cell_model.specs.Ranges.{InOneRange}
use Rattle.cell_model.specs.History.{History, base_of, len, store_after, entry_at, Had}
use Rattle.cell_model.specs.History.History.{Base, Then}
use Rattle.cell_model.specs.Lawful.{HasOpened, ClaimBasis}
use Rattle.cell_model.specs.declared.answers.RowsFault.{RowsFault}
use Rattle.cell_model.specs.declared.answers.RowsFault.TheVariants.{OutOfMemory}
use Rattle.cell_model.specs.Seen.{Fits, Stepped, Waited, IsPossible, Knows, HasSeenOpening, RoseIfStopped, StandsIfUnstopped}
use Rattle.cell_solo.specs.Turns.{Turn, opening, entry_of, entries_of, played, all_placed, whole_seen, Play, history_of, sight, IsPlay, IsPlayed, Steps, Stays}
use Rattle.cell_laws.proofs.CallerLemmas.{base_widths, known_is_allowed, nothing_waited, bounded, entry_at-last, entry_at-more, claimed_name, Names_Ids, not_zero}
use Rattle.list_lemmas.proofs.BoolTests.{not_Some, nat_eq_is}
use Rattle.list_lemmas.proofs.ListMembers.{here, there, split}

-- a place up to n + 1 is that, or up to n
pub last_or_earlier : (place n : ℕ) → place ≤ n + 1 → (place ≡ n + 1) ⊎ (place ≤ n)
last_or_earlier zero n le = inr (omega arith)
last_or_earlier (suc place) zero le = inl (omega arith)
last_or_earlier (suc place) (suc n) le = elim (last_or_earlier place n (omega (arith, le))) [ inl e ↦ inl (omega (arith, e)) | inr l ↦ inr (omega (arith, l)) ]

pub played-push : (h : History) (turns : List Turn) (turn : Turn) → played h (turns ++ turn ∷ []) ≡ Then (played h turns) (entry_of (played h turns) turn)
played-push h [] turn = refl
played-push h (t ∷ turns) turn = played-push (Then h (entry_of h t)) turns turn

pub len-played : (h : History) (turns : List Turn) → len (played h turns) ≡ len h + length turns
len-played h [] = omega arith
len-played h (t ∷ turns) = omega (arith, len-played (Then h (entry_of h t)) turns)

-- the entries of a caller are those of its turns
pub entries-played : (h : History) (turns : List Turn) (caller : ℕ) → entries_of (played h turns) caller ≡ entries_of h caller + count_by (λ (t : Turn). nat_eq t.caller caller) turns
entries-played h [] caller = omega arith
entries-played h (t ∷ turns) caller =
    entries-played (Then h (entry_of h t)) turns caller ∙ at (nat_eq t.caller caller) ∙ ap (λ (n : ℕ). entries_of h caller + n) (sym (sum_by-cons (λ (t : Turn). cond (nat_eq t.caller caller) 1 0) t turns))
  where
    at : (b : Bool) → (if b then entries_of h caller + 1 else entries_of h caller) + count_by (λ (t : Turn). nat_eq t.caller caller) turns
        ≡ entries_of h caller + (cond b 1 0 + count_by (λ (t : Turn). nat_eq t.caller caller) turns)
    at true = omega arith
    at false = omega arith

-- what was placed stands there, and what stands there was placed
pub placed_at : (h : History) (place : ℕ) (e : Entry) → Contains (all_placed h) (record { place = place; entry = e }) → entry_at h place ≡ Some e
placed_at (Base base) place e c = absurd (omega (arith, c.1))
placed_at (Then h last) place e c =
    elim (split (record { place = len h + 1; entry = last }) (record { place = place; entry = e }) (all_placed h) c) [
      | inl same ↦ subst (λ (p : Placed). entry_at (Then h last) p.place ≡ Some p.entry) same (entry_at-last h last)
      | inr older ↦ entry_at-more h last e place (placed_at h place e older)
    ]

pub at_placed : (h : History) (place : ℕ) (e : Entry) → entry_at h place ≡ Some e → Contains (all_placed h) (record { place = place; entry = e })
at_placed (Base base) place e is = absurd (not_Some e (sym is))
at_placed (Then h last) place e is = at (nat_eq place (len h + 1)) refl is (at_placed h place e)
  where
    at : (b : Bool) → nat_eq place (len h + 1) ≡ b → (if b then Some last else entry_at h place) ≡ Some e → (entry_at h place ≡ Some e → Contains (all_placed h) (record { place = place; entry = e }))
        → Contains (all_placed (Then h last)) (record { place = place; entry = e })
    at true eq is go =
        let same : last ≡ e = cc in
        let placed : ◌≡◌ {A = Placed} (record { place = len h + 1; entry = last }) (record { place = place; entry = e }) = λ i. record { place = sym (nat_eq_is _ _ eq) i; entry = same i } in
        subst (λ (p : Placed). Contains (all_placed (Then h last)) p) placed (here _ (all_placed h))
    at false eq is go = there _ _ (all_placed h) (go is)

pub fits_whole : (h : History) (caller : ℕ) (alone : Bool) → Fits (whole_seen h caller alone) h
fits_whole h caller alone = record { base = refl; long = omega arith; seen = λ place e saw. placed_at h place e saw.1; no_other = λ place e le own is. (le, at_placed h place e is) }

stepped_whole : (h : History) (turn : Turn) (alone : Bool) → Stepped (whole_seen h turn.caller alone) turn.step (entry_of h turn).reply (whole_seen (Then h (entry_of h turn)) turn.caller alone)
stepped_whole h turn alone = record {
  base = refl;
  caller = refl;
  absorbed = refl;
  length = omega arith;
  kept = λ place e saw. (let low = saw.0 in omega (arith, low), there _ _ (all_placed h) saw.1);
  stepped = (omega arith, here _ (all_placed h));
  no_own = λ place e saw own other. (let c = older place e (split _ _ (all_placed h) saw.1) other in (bounded h place e (placed_at h place e c), c));
  alone = refl;
  next = λ a. refl;
}
  where
    older : (place : ℕ) (e : Entry) → (◌≡◌ {A = Placed} (record { place = len h + 1; entry = entry_of h turn }) (record { place = place; entry = e })) ⊎ Contains (all_placed h) (record { place = place; entry = e }) → place ≢ len h + 1 → Contains (all_placed h) (record { place = place; entry = e })
    older place e (inl same) other = absurd (other (ap (λ (p : Placed). p.place) (sym same)))
    older place e (inr c) other = c

opened_step : (h : History) (caller : ℕ) (step : Step) → Had h (opening caller) → HasOpened h caller step
opened_step h caller Open had = tt
opened_step h caller (Read row) had = had
opened_step h caller (NextRow table from to) had = had
opened_step h caller (Bump kind) had = had
opened_step h caller (Claim row qual value) had = had
opened_step h caller (PutPoint point row qual value) had = had
opened_step h caller (AppendPoint point row piece) had = had
opened_step h caller (PutMerged row qual value) had = had
opened_step h caller (DropCells row which) had = had

-- a turn that is known to be allowed goes on with the play
play_more : (h : History) (callers : ℕ) (turn : Turn) (alone : Bool) → IsPlay h callers → 1 ≤ turn.caller → turn.caller ≤ callers → Knows (whole_seen h turn.caller alone) turn.step → IsPlay (Then h (entry_of h turn)) callers
play_more h callers turn alone play low high knows = record {
  lawful = (play.lawful, record { opened = opened_step h turn.caller turn.step (play.opened turn.caller low high); may = known_is_allowed (whole_seen h turn.caller alone) h turn.step play.lawful (fits_whole h turn.caller alone) knows }, refl);
  opened = λ c one most. let had = play.opened c one most in (had.0, entry_at-more h (entry_of h turn) _ had.0 had.1);
}

-- the same play after more turns, and with other room
abbrev pub then_played : Play → List Turn → ℕ → Play
then_played p turns room = record { lines = p.lines; turns = turns; callers = p.callers; caller = p.caller; room = room }

pub possible_whole : (h : History) (callers caller : ℕ) (alone : Bool) → IsPlay h callers → IsPossible (whole_seen h caller alone)
possible_whole h callers caller alone play = record { history = h; lawful = play.lawful; fits = fits_whole h caller alone; whole = λ a. refl }

-- the play's caller has seen its opening
pub opening_seen : (p : Play) → IsPlay (history_of p) p.callers → 1 ≤ p.caller → p.caller ≤ p.callers → HasSeenOpening (sight p)
opening_seen p play low high = let had = play.opened p.caller low high in (had.0, (bounded (history_of p) had.0 (opening p.caller) had.1, at_placed (history_of p) had.0 (opening p.caller) had.1))

-- the place of the next entry
abbrev pub place_in : Play → ℕ
place_in p = length p.turns + 1

next_place : (p : Play) → len (history_of p) + 1 ≡ place_in p
next_place p = omega (arith, len-played (Base (store_of p.lines)) p.turns)

-- what one turn more makes of a play, which was v, however much room is left
pub record SoloStep (content : Store) (covers : Row → Bool) (p v : Play) (step : Step) (reply : Reply) (turns : List Turn) : Type 0 where
  pub played : (room : ℕ) → IsPlayed content covers (then_played p turns room)
  pub steps : (room : ℕ) → Steps v step reply (then_played p turns room)

one_step : (content content' : Store) (covers covers' : Row → Bool) (p : Play) (middle turns : List Turn) (step : Step) (reply : Reply) (place : ℕ) → IsPlayed content covers p
    → turns ≡ middle ++ record { caller = p.caller; step = step } ∷ [] → middle ≡ p.turns → covers' ≡ covers → Knows (sight p) step
    → reply ≡ reply_of content place step → content' ≡ after content place step → place ≡ place_in p
    → SoloStep content' covers' p p step reply turns
one_step content content' covers covers' p middle turns step reply place is added same same_covers knows replied made place_is =
    let h = history_of p in
    let turn : Turn = record { caller = p.caller; step = step } in
    let alone = nat_eq p.callers 1 in
    let grown : played (Base (store_of p.lines)) turns ≡ Then h (entry_of h turn) =
    ap (played (Base (store_of p.lines))) (added ∙ ap (λ (ts : List Turn). ts ++ turn ∷ []) same) ∙ played-push (Base (store_of p.lines)) p.turns turn in
    let more = play_more h p.callers turn alone is.play is.least is.most knows in
    let at : place ≡ len h + 1 = place_is ∙ sym (next_place p) in
    let replied_is : (entry_of h turn).reply ≡ reply = sym (replied ∙ (λ i. reply_of (is.content_is i) (at i) step)) in
    record {
      played = λ room. record {
        content_is = made ∙ (λ i. after (is.content_is i) (at i) step) ∙ sym (ap store_after grown);
        covered = subst (λ (f : Row → Bool). (row : Row) → IsTrue (f row)) (sym same_covers) is.covered;
        play = subst (λ (x : History). IsPlay x p.callers) (sym grown) more;
        least = is.least;
        most = is.most;
      };
      steps = λ room. record {
        history = grown ∙ ap (λ (r : Reply). Then h (record { caller = p.caller; step = step; reply = r })) replied_is;
        callers = refl;
        caller = refl;
        stepped = subst (λ (x : History). Stepped (sight p) step reply (whole_seen x p.caller alone)) (sym grown)
            (subst (λ (r : Reply). Stepped (whole_seen h p.caller alone) step r (whole_seen (Then h (entry_of h turn)) p.caller alone)) replied_is (stepped_whole h turn alone));
        possible = subst (λ (x : History). IsPossible (whole_seen x p.caller alone)) (sym grown) (possible_whole (Then h (entry_of h turn)) p.callers p.caller alone more);
      };
    }

pub solo_step : (content content' : Store) (covers covers' : Row → Bool) (p v : Play) (middle turns : List Turn) (step : Step) (reply : Reply) (place : ℕ) → IsPlayed content covers p → p ≡ v
    → turns ≡ middle ++ record { caller = p.caller; step = step } ∷ [] → middle ≡ p.turns → covers' ≡ covers → Knows (sight v) step
    → reply ≡ reply_of content place step → content' ≡ after content place step → place ≡ place_in p
    → SoloStep content' covers' p v step reply turns
solo_step content content' covers covers' p v middle turns step reply place is view_is added same same_covers knows replied made place_is =
    subst (λ (w : Play). Knows (sight w) step → SoloStep content' covers' p w step reply turns) view_is
    (λ k. one_step content content' covers covers' p middle turns step reply place is added same same_covers k replied made place_is) knows

-- what the same turns leave as it was
pub record Still (content : Store) (covers : Row → Bool) (p v : Play) (turns : List Turn) : Type 0 where
  pub played : (room : ℕ) → IsPlayed content covers (then_played p turns room)
  pub stays : (room : ℕ) → Stays v (then_played p turns room)

pub still : (content content' : Store) (covers covers' : Row → Bool) (p v : Play) (turns : List Turn) → IsPlayed content covers p → p ≡ v → turns ≡ p.turns → covers' ≡ covers → content' ≡ content → Still content' covers' p v turns
still content content' covers covers' p v turns is view_is same same_covers same_content =
    subst (λ (w : Play). Still content' covers' p w turns) view_is (subst (λ (ts : List Turn). Still content' covers' p p ts) (sym same) (record {
      played = λ room. record {
        content_is = same_content ∙ is.content_is;
        covered = subst (λ (f : Row → Bool). (row : Row) → IsTrue (f row)) (sym same_covers) is.covered;
        play = is.play;
        least = is.least;
        most = is.most;
      };
      stays = λ room. refl;
    }))

-- no claim that is known to be allowed is of a counter
pub claims_no_counter : (content : Store) (covers : Row → Bool) (p v : Play) (row : Row) (qual value : List ℕ) → IsPlayed content covers p → p ≡ v → Knows (sight v) (Claim row qual value) → row ≢ counter_row
claims_no_counter content covers p v row qual value is view_is known =
    let knows = subst (λ (w : Play). Knows (sight w) (Claim row qual value)) (sym view_is) known in
    at row.table row.bytes (known_is_allowed (sight p) (history_of p) (Claim row qual value) is.play.lawful (fits_whole (history_of p) p.caller (nat_eq p.callers 1)) knows) (λ e. (ap (λ (r : Row). r.table) e, ap (λ (r : Row). r.bytes) e))
  where
    at : (table : Table) (bytes : List ℕ) → ClaimBasis (store_after (history_of p)).widths (Had (history_of p)) p.caller table bytes qual value → (row ≡ counter_row → (table ≡ Ids) × (bytes ≡ 0 ∷ [])) → row ≢ counter_row
    at Names bytes basis parts e = Names_Ids (parts e).0
    at Points bytes basis parts e = absurd basis
    at Ids bytes basis parts e = not_zero bytes (claimed_name (history_of p) basis.who _ qual bytes is.play.lawful basis.reversed) (parts e).1

-- nor is a point row
pub no_counter_in_points : (row : Row) → row.table ≡ Points → row ≢ counter_row
no_counter_in_points row t e = Ids_Points (sym (ap (λ (r : Row). r.table) e) ∙ t)
  where
    Ids_Points : Ids ≡ Points → ⊥
    Ids_Points e = cc

-- over a base all entries are those of the turns
pub entries-begun : (base : Store) (turns : List Turn) (caller : ℕ) → entries_of (played (Base base) turns) caller ≡ count_by (λ (t : Turn). nat_eq t.caller caller) turns
entries-begun base turns caller = entries-played (Base base) turns caller ∙ omega arith

-- what stays as it was has waited
pub stayed : (old new : Play) → Stays old new → Waited (sight old) (sight new)
stayed old new is = subst (λ (p : Play). Waited (sight old) (sight p)) (sym is) (nothing_waited (sight old))

pub lives_on : (old new : Play) → Stays old new → IsPossible (sight old) → IsPossible (sight new)
lives_on old new is p = subst (λ (q : Play). IsPossible (sight q)) (sym is) p

pub stopped_never : (fault : RowsFault) → fault ≡ OutOfMemory → RoseIfStopped 0 0 fault
stopped_never fault is = subst (RoseIfStopped 0 0) (sym is) tt

pub stands_never : {T : Type 0} (result : Result T RowsFault) → IfErr result (λ fault. fault ≡ OutOfMemory) → StandsIfUnstopped 0 0 result
stands_never (Ok answer) memory = refl
stands_never (Err fault) memory = subst (λ (f : RowsFault). StandsIfUnstopped {T = Unit {0}} 0 0 (Err f)) (sym memory) refl

-- what holds of each outcome follows for it
pub on_ok : {T E : Type 0} (r : Result T E) {P Q : Type 0} → (P → Q) → OnOk r P → OnOk r Q
on_ok (Ok v) f p = f p
on_ok (Err e) f p = p

pub if_err : {T E : Type 0} (r : Result T E) {P Q : E → Type 0} → ((e : E) → P e → Q e) → IfErr r P → IfErr r Q
if_err (Ok v) f p = p
if_err (Err e) f p = f e p

-- ---- widths

base-played : (h : History) (turns : List Turn) → base_of (played h turns) ≡ base_of h
base-played h [] = refl
base-played h (turn ∷ turns) = base-played (Then h (entry_of h turn)) turns

-- the widths of the lines are those of the base, and these are those of the body
pub seen_as_listed : (p : Play) → p.lines.widths ≡ (sight p).base.widths
seen_as_listed p = ap (λ (s : Store). s.widths) (sym (base-played (Base (store_of p.lines)) p.turns))

pub range_here : (content : Store) (covers : Row → Bool) (p : Play) → IsPlayed content covers p → (table : Table) (from to : List ℕ) → InOneRange (sight p).base.widths table from to → InOneRange content.widths table from to
range_here content covers p is table from to range =
    subst (λ (w : Widths). InOneRange w table from to) (base_widths (history_of p) ∙ ap (λ (s : Store). s.widths) (sym is.content_is)) range
