-- A play begins with the openings of its callers.
use Rattle.std.proofs.Common.{◌≡◌, ℕ, zero, suc, ◌+◌, ◌≤◌, ◌⊎◌, inl, inr, Bool, List, refl, sym, ap, subst, ◌∙◌, arith}
use Rattle.std.specs.Prelude.{IsTrue}
use Rattle.cell_model.specs.declared.row.Row.{Row}
use Rattle.cell_model.specs.declared.row.Listing.{Listing}
use Rattle.cell_model.specs.declared.events.Step.TheVariants.{Open}
use Rattle.cell_model.specs.declared.events.Reply.TheVariants.{Opened}
use Rattle.cell_model.specs.Store.{Store}
use Rattle.cell_model.specs.Counts.{listing_of}
use Rattle.cell_model.specs.Listed.{store_of}
use Rattle.cell_model.specs.Sound.{IsBase}
use Rattle.cell_model.specs.History.{History, len, store_after, Had}
use Rattle.cell_model.specs.History.History.{Base, Then}
use Rattle.cell_model.specs.Lawful.{IsLawful}
use Rattle.cell_solo.specs.Turns.{Turn, opening, opened, openings, entry_of, played, IsPlay, IsPlayed}
use Rattle.cell_laws.proofs.CallerLemmas.{lines_tell_store, entry_at-last, entry_at-more}
use Rattle.cell_solo.proofs.Plays.{played-push, last_or_earlier}

len-opened : (base : Store) (n : ℕ) → len (opened base n) ≡ n
len-opened base zero = refl
len-opened base (suc n) = omega (arith, len-opened base n)

store-opened : (base : Store) (n : ℕ) → store_after (opened base n) ≡ base
store-opened base zero = refl
store-opened base (suc n) = store-opened base n

entry_is : (base : Store) (n : ℕ) → entry_of (opened base n) (record { caller = n + 1; step = Open }) ≡ opening (n + 1)
entry_is base n = ap (λ (m : ℕ). record { caller = n + 1; step = Open; reply = Opened (m + 1) }) (len-opened base n)

pub played-openings : (base : Store) (n : ℕ) → played (Base base) (openings n) ≡ opened base n
played-openings base zero = refl
played-openings base (suc n) =
    played-push (Base base) (openings n) (record { caller = n + 1; step = Open })
    ∙ ap (λ (h : History). Then h (entry_of h (record { caller = n + 1; step = Open }))) (played-openings base n)
    ∙ ap (Then (opened base n)) (entry_is base n)

lawful-opened : (base : Store) (n : ℕ) → IsBase base → IsLawful (opened base n)
lawful-opened base zero is = is
lawful-opened base (suc n) is =
    (lawful-opened base n is, record { opened = tt; may = ap (λ (m : ℕ). m + 1) (sym (len-opened base n)) }, ap (λ (m : ℕ). Opened (m + 1)) (sym (len-opened base n)))

had-opened : (base : Store) (n c : ℕ) → 1 ≤ c → c ≤ n → Had (opened base n) (opening c)
had-opened base zero c one most = absurd (omega arith)
had-opened base (suc n) c one most = let le : c ≤ n + 1 = omega (arith, most) in at (last_or_earlier c n le) (had-opened base n c one)
  where
    at : (c ≡ n + 1) ⊎ (c ≤ n) → (c ≤ n → Had (opened base n) (opening c)) → Had (opened base (suc n)) (opening c)
    at (inl same) earlier = subst (λ (m : ℕ). Had (opened base (suc n)) (opening m)) (sym same) (len (opened base n) + 1, entry_at-last (opened base n) (opening (n + 1)))
    at (inr less) earlier = let had = earlier less in (had.0, entry_at-more (opened base n) (opening (n + 1)) (opening c) had.0 had.1)

pub play-opened : (base : Store) (n : ℕ) → IsBase base → IsPlay (opened base n) n
play-opened base n is = record { lawful = lawful-opened base n is; opened = had-opened base n }

-- the openings over the body's listing are those over its content
pub begun : (content : Store) (lines : Listing) (turns : List Turn) (n : ℕ) → IsBase content → lines ≡ listing_of content → turns ≡ openings n → played (Base (store_of lines)) turns ≡ opened content n
begun content lines turns n is listed told =
    (λ i. played (Base (store_of (listed i))) (told i)) ∙ ap (λ (s : Store). played (Base s) (openings n)) (lines_tell_store content is.versions) ∙ played-openings content n

pub first_play : (content : Store) (covers : Row → Bool) (lines : Listing) (turns : List Turn) (n room : ℕ) → IsBase content → ((row : Row) → IsTrue (covers row)) → lines ≡ listing_of content → turns ≡ openings n → 1 ≤ n
    → IsPlayed content covers (record { lines = lines; turns = turns; callers = n; caller = 1; room = room })
first_play content covers lines turns n room is covered listed told some =
    let begun_is = begun content lines turns n is listed told in
    record {
      content_is = sym (ap store_after begun_is ∙ store-opened content n);
      covered = covered;
      play = subst (λ (h : History). IsPlay h n) (sym begun_is) (play-opened content n is);
      least = omega arith;
      most = some;
    }
