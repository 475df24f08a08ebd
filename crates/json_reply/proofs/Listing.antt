-- Lists of texts with commas between them, and the values under the texts of their times.
use Rattle.std.proofs.Common.{◌≡◌, ℕ, suc, ◌+◌, ◌<◌, List, [], ◌∷◌, ◌++◌, map, length, get_or, take, refl, sym, ap, ◌∙◌, append_assoc, append-nil, length-append, arith}
use Rattle.std.specs.Prelude.{◌==◌, if◌then◌else◌, ℤ, Result, Ok, Err, OnOk, is_ok}
use Rattle.std.proofs.lemmas.List.{take_more, length-take-le, map-append, length-map}
use Rattle.std.proofs.lemmas.Bool.Decides.{nat_tests}
use Rattle.json_reply.specs.Texts.{dot_text, listed}

abbrev pub comma_before : ℕ → List ℕ
comma_before index = if index == 0 then [] else 44 ∷ []

comma_before-suc : (index : ℕ) → comma_before (suc index) ≡ 44 ∷ []
comma_before-suc index = grind (arith, nat_tests)

listed_after : (first : List ℕ) (texts : List (List ℕ)) (text : List ℕ) → listed ((first ∷ texts) ++ text ∷ []) ≡ listed (first ∷ texts) ++ 44 ∷ text
listed_after first [] text = refl
listed_after first (second ∷ texts) text =
    ap (λ t. first ++ 44 ∷ t) (listed_after second texts text) ∙ sym (append_assoc first (44 ∷ listed (second ∷ texts)) (44 ∷ text))

-- one more text at the end
listed_push : (texts : List (List ℕ)) (text : List ℕ) → listed (texts ++ text ∷ []) ≡ listed texts ++ (comma_before (length texts) ++ text)
listed_push [] text = refl
listed_push (first ∷ texts) text = listed_after first texts text ∙ ap (λ c. listed (first ∷ texts) ++ (c ++ text)) (sym (comma_before-suc (length texts)))

-- what is written with one more text
pub one_written : (old : List ℕ) (texts : List (List ℕ)) (before comma now : List ℕ) (i : ℕ) (text : List ℕ) → before ≡ old ++ listed texts → length texts ≡ i → comma ≡ before ++ comma_before i → now ≡ comma ++ text → now ≡ old ++ listed (texts ++ text ∷ [])
one_written old texts before comma now i text before_is count comma_is now_is =
    now_is ∙ (λ k. (comma_is ∙ (λ j. before_is j ++ comma_before (sym count j))) k ++ text) ∙ append_assoc (old ++ listed texts) (comma_before (length texts)) text ∙ append_assoc old (listed texts) (comma_before (length texts) ++ text)
    ∙ ap (λ t. old ++ t) (sym (listed_push texts text))

-- the same of one more item
pub listed_more : {A B : Type 0} (text : B → List ℕ) (read : A → B) (items : List A) (i : ℕ) (item : A) (old before comma now : List ℕ) → i < length items → item ≡ get_or items i item → before ≡ old ++ listed (map text (map read (take i items)))
    → comma ≡ before ++ comma_before i → now ≡ comma ++ text (read item) → now ≡ old ++ listed (map text (map read (take (i + 1) items)))
listed_more text read items i item old before comma now within is before_is comma_is now_is =
    let done = map text (map read (take i items)) in
    let more = ap (λ xs. map text (map read xs)) (take_more items i item within ∙ ap (λ x. take i items ++ x ∷ []) (sym is)) ∙ ap (map text) (map-append read (take i items) (item ∷ [])) ∙ map-append text (map read (take i items)) (read item ∷ []) in
    let count = length-map (map read (take i items)) text ∙ length-map (take i items) read ∙ length-take-le i items (omega arith) in
    one_written old done before comma now i (text (read item)) before_is count comma_is now_is ∙ ap (λ xs. old ++ listed xs) (sym more)

-- the same where the items are themselves read
pub listed_next : {A : Type 0} (text : A → List ℕ) (items : List A) (i : ℕ) (item : A) (old before comma now : List ℕ) → i < length items → item ≡ get_or items i item → before ≡ old ++ listed (map text (take i items))
    → comma ≡ before ++ comma_before i → now ≡ comma ++ text item → now ≡ old ++ listed (map text (take (i + 1) items))
listed_next text items i item old before comma now within is before_is comma_is now_is =
    let done = map text (take i items) in
    let more = ap (map text) (take_more items i item within ∙ ap (λ x. take i items ++ x ∷ []) (sym is)) ∙ map-append text (take i items) (item ∷ []) in
    let count = length-map (take i items) text ∙ length-take-le i items (omega arith) in
    one_written old done before comma now i (text item) before_is count comma_is now_is ∙ ap (λ xs. old ++ listed xs) (sym more)

-- the last of the dots before the place goes behind it
pub one_back : (dots before left behind : List (ℕ × ℤ)) (dot : ℕ × ℤ) → dots ≡ before ++ behind → before ≡ left ++ dot ∷ [] → dots ≡ left ++ dot ∷ behind
one_back dots before left behind dot all before_is = all ∙ ap (λ xs. xs ++ behind) before_is ∙ append_assoc left (dot ∷ []) behind

-- one more entry of a map is written
pub entry_written : (entries left rest : List (List ℕ × ℤ)) (old before comma now text : List ℕ) (key : List ℕ) (value printed : ℤ) (i : ℕ) → left ≡ (key, value) ∷ rest → text ≡ key → printed ≡ value → comma ≡ before ++ comma_before i → now ≡ comma ++ dot_text (text, printed)
    → ((done : List (List ℕ × ℤ)) × (entries ≡ done ++ left) × (length done ≡ i) × (before ≡ old ++ listed (map dot_text done)))
    → ((done : List (List ℕ × ℤ)) × (entries ≡ done ++ rest) × (length done ≡ i + 1) × (now ≡ old ++ listed (map dot_text done)))
entry_written entries left rest old before comma now text key value printed i left_is text_is printed_is comma_is now_is done = (
  done.0 ++ (key, value) ∷ [],
  done.1 ∙ ap (λ xs. done.0 ++ xs) left_is ∙ sym (append_assoc done.0 ((key, value) ∷ []) rest),
  length-append done.0 ((key, value) ∷ []) ∙ (let count = done.2 in omega (arith, count)),
  one_written old (map dot_text done.0) before comma now i (dot_text (key, value)) done.3 (length-map done.0 dot_text ∙ done.2) comma_is (now_is ∙ (λ k. comma ++ dot_text (text_is k, printed_is k)))
      ∙ ap (λ xs. old ++ listed xs) (sym (map-append dot_text done.0 ((key, value) ∷ []))),
)

-- all entries of a map are written
pub entries_written : (entries left : List (List ℕ × ℤ)) (old now : List ℕ) (i : ℕ) → ((done : List (List ℕ × ℤ)) × (entries ≡ done ++ left) × (length done ≡ i) × (now ≡ old ++ listed (map dot_text done))) → left ≡ [] → now ≡ old ++ listed (map dot_text entries)
entries_written entries left old now i done none = done.3 ∙ ap (λ xs. old ++ listed (map dot_text xs)) (sym (done.1 ∙ ap (λ xs. done.0 ++ xs) none ∙ append-nil done.0))

-- one text after another
pub onward : (old mid now first second : List ℕ) → mid ≡ old ++ first → now ≡ mid ++ second → now ≡ old ++ (first ++ second)
onward old mid now first second mid_is now_is = now_is ∙ ap (λ t. t ++ second) mid_is ∙ append_assoc old first second

-- the same, where the second is written only if there is memory
pub onward_if : {T E : Type 0} (r : Result T E) (old mid now first second : List ℕ) → mid ≡ old ++ first → now ≡ (if is_ok r then mid ++ second else mid) → OnOk r (now ≡ old ++ (first ++ second))
onward_if (Ok done) old mid now first second mid_is now_is = onward old mid now first second mid_is now_is
onward_if (Err fault) old mid now first second mid_is now_is = tt
