-- Heads as httparse reads them.
use Rattle.std.proofs.Common.{◌≡◌, ℕ, ◌+◌, ◌<◌, ◌≤◌, Bool, true, false, cond, List, [], ◌∷◌, length, take, drop, map, refl, sym, ap, subst, ◌∙◌, arith, append-nil, Option, Some, None, Result, Ok, Err}
use Rattle.std.specs.Prelude.{nat_lt, nat_le, not, ◌&&◌, is_some, min, ◌^◌, ◌-◌, All}
use Rattle.std.proofs.lemmas.List.{drop_all, length-map, length-take-le}
use Rattle.std.specs.Prelude.{position}
use Rattle.std.specs.List.{position_or_len, slice_split}
use Rattle.std.proofs.lemmas.Bool.{ltb-true}
use Rattle.std.proofs.lemmas.Bool.Decides.{nat_tests}
use Rattle.std.proofs.lemmas.List.Splits.{slice_split_first, slice_split_none}
use Rattle.std.proofs.lemmas.List.Sums.{fails_before_first}
use Rattle.httparse.specs.declared.spans.HeaderSpan.{HeaderSpan}
use Rattle.httparse.specs.declared.spans.RequestSpans.{RequestSpans}
use Rattle.httparse.specs.Pieces.{Then, RequestStart, Section}
use Rattle.httparse.specs.Grammar.{RequestHead, ReadsRequest, HasNoRequest}
use Rattle.httparse.specs.Spans.{IsRequestAt, IsRequestWithin, IsHeaderWithin, RequestOverflows, name_and_value, header_bytes, span_bytes}
use Rattle.httparse.proofs.GrammarLemmas.{request_unique, request_pieces, request_from_pieces, request_tree, request_head}
use Rattle.tsd_base.specs.Digits.{is_number}
use Rattle.http_requests.specs.declared.http_call.TheConstants.{LONGEST_BODY, MOST_FIELDS}
use Rattle.http_requests.specs.HeadReader.{Tree, tree_at, head_from, whole, head_of}
use Rattle.http_requests.specs.HeadFields.{is_word_end, Fields, fields_of, value_of, all_have}
use Rattle.http_requests.specs.HttpHeads.{IsHead, verb_of, content_length, refusal_by, asked_of, plan_of, planned, has_codings, are_lengths, are_digits, length_in, is_post, path_of, form_of, closes}
use Rattle.http_requests.specs.declared.http_call.Verb.{Verb}
use Rattle.http_requests.specs.declared.http_call.Refusal.{Refusal}
use Rattle.http_requests.specs.declared.http_call.Refusal.TheVariants.{Codings, BadLength, NoLength, BodyTooLarge}
use Rattle.http_requests.specs.declared.http_head.Plan.{Plan}
use Rattle.http_requests.specs.HeadSpans.{IsSpanned, Found}
use Rattle.http_requests.proofs.ReaderLemmas.{Reads, Reads_order, Reads_start, Reads_section}

-- ---- words between commas

not_lt : (m n : ℕ) → nat_lt m n ≡ false → n ≤ m
not_lt m n e = grind (arith, nat_tests, e)

abbrev pub Words : List ℕ → Option ℕ → Type 0
Words text None = slice_split is_word_end text ≡ text ∷ []
Words text (Some at) = slice_split is_word_end text ≡ take at text ∷ slice_split is_word_end (drop (at + 1) text)

words : (text : List ℕ) → Words text (position is_word_end text)
words text = by (nat_lt (position_or_len is_word_end text) (length text)) refl
  where
    by : (b : Bool) → nat_lt (position_or_len is_word_end text) (length text) ≡ b → Words text (cond b (Some (position_or_len is_word_end text)) None)
    by true e = slice_split_first is_word_end text 0 (ltb-true _ _ e)
    by false e = slice_split_none is_word_end text (λ k d lt. fails_before_first is_word_end text k d (let le = not_lt (position_or_len is_word_end text) (length text) e in omega (arith, lt, le)))

pub words_at : (text : List ℕ) (o : Option ℕ) → o ≡ position is_word_end text → Words text o
words_at text o e = subst (Words text) (sym e) (words text)

-- ---- the reader is the grammar

tree_reads : Reads (Then RequestStart Section) tree_at
tree_reads = Reads_order Reads_start Reads_section

same_head : (t : Tree) → head_from t ≡ request_head t
same_head t = refl

tree_back : (h : RequestHead) → head_from (request_tree h) ≡ h
tree_back h = refl

le_test : (m n : ℕ) → m ≤ n → nat_le m n ≡ true
le_test m n h = grind (arith, h)

le_is : (m n : ℕ) → nat_le m n ≡ true → m ≤ n
le_is m n h = grind (arith, h)

le_not : (m n : ℕ) → nat_le m n ≡ false → n < m
le_not m n h = grind (arith, h)

-- a head that the bytes are as a whole is found
pub head_found : (bytes : List ℕ) (h : RequestHead) → ReadsRequest bytes h [] → length h.fields ≤ MOST_FIELDS → head_of bytes ≡ Some h
unfolding head_of
head_found bytes h reads le =
    ap whole (tree_reads.finds bytes (request_tree h) [] (request_pieces bytes h [] reads))
    ∙ ap (λ t. cond t (Some (head_from (request_tree h))) None) (le_test (length h.fields) MOST_FIELDS le)
    ∙ ap (λ (x : RequestHead). Some x) (tree_back h)

-- what is found is such a head
pub found_is : (bytes : List ℕ) (h : RequestHead) → head_of bytes ≡ Some h → ReadsRequest bytes h [] × (length h.fields ≤ MOST_FIELDS)
unfolding head_of
found_is bytes h e = by (tree_at bytes) refl e
  where
    P : RequestHead → Type 0
    P k = ReadsRequest bytes k [] × (length k.fields ≤ MOST_FIELDS)

    test : (t : Tree) (b : Bool) → nat_le (length t.1.0) MOST_FIELDS ≡ b → ReadsRequest bytes (head_from t) [] → cond b (Some (head_from t)) None ≡ Some h → P h
    test t true is reads got = let same : head_from t ≡ h = cc in subst P same (reads, le_is (length t.1.0) MOST_FIELDS is)
    test t false is reads got = absurd (cc)

    rest : (t : Tree) (r : List ℕ) → tree_at bytes ≡ Some (t, r) → whole (Some (t, r)) ≡ Some h → P h
    rest t [] is got = test t (nat_le (length t.1.0) MOST_FIELDS) refl (request_from_pieces bytes t [] (tree_reads.gives bytes t [] is)) got
    rest t (b ∷ r) is got = absurd (cc)

    by : (o : Option (Tree × List ℕ)) → tree_at bytes ≡ o → whole o ≡ Some h → P h
    by None is got = absurd (cc)
    by (Some p) is got = rest p.0 p.1 is got

-- where every head that the bytes are has too many fields, none is found
pub none_found : (bytes : List ℕ) → ((h : RequestHead) → ReadsRequest bytes h [] → MOST_FIELDS < length h.fields) → head_of bytes ≡ None
none_found bytes over = by (head_of bytes) refl
  where
    by : (o : Option RequestHead) → head_of bytes ≡ o → o ≡ None
    by None is = refl
    by (Some h) is = let f = found_is bytes h is in let o = over h f.0 in let l = f.1 in absurd (omega (arith, o, l))

-- the definition in one fact
pub head_is : (bytes : List ℕ) → IsHead bytes (head_of bytes)
head_is bytes = by (head_of bytes) refl
  where
    least : (h : RequestHead) → head_of bytes ≡ None → ReadsRequest bytes h [] → (b : Bool) → nat_le (length h.fields) MOST_FIELDS ≡ b → MOST_FIELDS < length h.fields
    least h is reads true le = absurd (let x = sym (head_found bytes h reads (le_is (length h.fields) MOST_FIELDS le)) ∙ is in cc)
    least h is reads false le = le_not (length h.fields) MOST_FIELDS le

    by : (o : Option RequestHead) → head_of bytes ≡ o → IsHead bytes o
    by None is = λ h reads. least h is reads (nat_le (length h.fields) MOST_FIELDS) refl
    by (Some h) is = found_is bytes h is

-- ---- what httparse answers

-- the whole of the bytes is a head
pub spanned : (bytes : List ℕ) (headers : List HeaderSpan) (spans : RequestSpans) → length headers ≡ MOST_FIELDS → IsRequestWithin bytes headers spans → (h : RequestHead) → IsRequestAt bytes headers spans h → spans.len ≡ length bytes → Found bytes headers (Some spans) (head_of bytes)
spanned bytes headers spans size within h at all =
    let rest : drop spans.len bytes ≡ [] = drop_all spans.len bytes (let a = all in omega (arith, a)) in
    let reads : ReadsRequest bytes h [] = subst (λ (r : List ℕ). ReadsRequest bytes h r) rest at.reads in
    let count : length (map (header_bytes bytes) (take spans.headers headers)) ≡ length (map name_and_value h.fields) = ap length at.fields in
    let fits = within.section.count_fits in
    let few : length h.fields ≤ MOST_FIELDS = (let a = length-map (take spans.headers headers) (header_bytes bytes) in let b = length-map h.fields name_and_value in let t = length-take-le spans.headers headers fits in omega (arith, count, a, b, t, fits, size)) in
    let m = within.method in
    let p = within.path in (
      h,
      head_found bytes h reads few,
      fits,
      record {
        method_within = (m.0, let x = m.1 in omega (arith, x, all));
        target_within = (p.0, let x = p.1 in omega (arith, x, all));
        fields_within = subst (λ (n : ℕ). All (IsHeaderWithin n) (take spans.headers headers)) all within.section.headers_fit;
        method = at.method;
        target = at.path;
        minor = at.version;
        fields = at.fields;
      },
    )

-- a head ends before the bytes do
pub no_whole : (bytes rest : List ℕ) (h : RequestHead) → ReadsRequest bytes h rest → (rest ≡ [] → ⊥) → head_of bytes ≡ None
no_whole bytes rest h reads some = none_found bytes (λ k other. absurd (some (request_unique bytes h k rest [] reads other).1))

pub no_part : (bytes : List ℕ) → HasNoRequest bytes → head_of bytes ≡ None
no_part bytes none = none_found bytes (λ h reads. absurd (none h [] reads))

pub over_part : (bytes : List ℕ) → RequestOverflows MOST_FIELDS bytes → head_of bytes ≡ None
over_part bytes over = none_found bytes (λ h reads. over [] h [] (subst (λ (x : List ℕ). ReadsRequest x h []) (sym (append-nil bytes)) reads))

-- ---- what a head asks

pub refused_as : (bytes : List ℕ) (headers : List HeaderSpan) (spans : RequestSpans) (h : RequestHead) (verb : Verb) (text : Option (List ℕ)) (refusal : Refusal)
    → IsSpanned bytes headers spans h → verb ≡ verb_of (span_bytes bytes spans.method) → text ≡ value_of content_length (map (header_bytes bytes) headers)
    → Some refusal ≡ refusal_by verb (map (header_bytes bytes) headers) text → ◌≡◌ {A = Result Plan Refusal} (Err refusal) (asked_of (Some h))
unfolding asked_of
refused_as bytes headers spans h verb text refusal s v t r =
    let verb_is : verb ≡ verb_of h.method = v ∙ ap verb_of s.method in
    let text_is : text ≡ value_of content_length (fields_of h) = t ∙ ap (value_of content_length) s.fields in
    ap (planned h) (r ∙ (λ i. refusal_by (verb_is i) (s.fields i) (text_is i)))

none_some : {A : Type 0} (x : A) → None ≡ Some x → ⊥
none_some x e = cc

-- a head that isn't refused has a length that fits
fits_by : (verb : Verb) (fields : Fields) (text : Option (List ℕ)) → None ≡ refusal_by verb fields text → (are_lengths text fields ≡ true) × (length_in text ≤ LONGEST_BODY)
fits_by verb fields text e = by (has_codings fields) (are_lengths text fields) (is_post verb && not (is_some text)) (nat_lt LONGEST_BODY (length_in text)) refl refl e
  where
    by : (a b c d : Bool) → are_lengths text fields ≡ b → nat_lt LONGEST_BODY (length_in text) ≡ d
        → None ≡ cond a (Some Codings) (cond (not b) (Some BadLength) (cond c (Some NoLength) (cond d (Some BodyTooLarge) None))) → (are_lengths text fields ≡ true) × (length_in text ≤ LONGEST_BODY)
    by true b c d lengths long x = absurd (none_some Codings x)
    by false false c d lengths long x = absurd (none_some BadLength x)
    by false true true d lengths long x = absurd (none_some NoLength x)
    by false true false true lengths long x = absurd (none_some BodyTooLarge x)
    by false true false false lengths long x = (lengths, not_lt LONGEST_BODY (length_in text) long)

-- what a head asks has no longer body
pub plan_fits : (o : Option RequestHead) (plan : Plan) → asked_of o ≡ Ok plan → plan.len ≤ LONGEST_BODY
unfolding asked_of
plan_fits None plan e = absurd (cc)
plan_fits (Some h) plan e = by (refusal_by (verb_of h.method) (fields_of h) (value_of content_length (fields_of h))) refl e
  where
    by : (r : Option Refusal) → refusal_by (verb_of h.method) (fields_of h) (value_of content_length (fields_of h)) ≡ r → planned h r ≡ Ok plan → plan.len ≤ LONGEST_BODY
    by None is got =
        let fits = fits_by (verb_of h.method) (fields_of h) (value_of content_length (fields_of h)) (sym is) in
        let same : plan_of h ≡ plan = cc in
        subst (λ (p : Plan). p.len ≤ LONGEST_BODY) same fits.1
    by (Some refusal) is got = absurd (cc)

digits_by : (text : Option (List ℕ)) (fields : Fields) → are_lengths text fields ≡ true → are_digits text ≡ true
digits_by None fields e = refl
digits_by (Some text) fields e = by (is_number text) (nat_le (length text) 20) e
  where
    by : (a b : Bool) → (a && b) && all_have content_length text fields ≡ true → a ≡ true
    by true b x = refl
    by false b x = absurd (cc)

pub planned_as : (bytes : List ℕ) (headers : List HeaderSpan) (spans : RequestSpans) (h : RequestHead) (verb : Verb) (text : Option (List ℕ)) (path form : List ℕ) (closing : Bool) (len : ℕ)
    → IsSpanned bytes headers spans h → verb ≡ verb_of (span_bytes bytes spans.method) → text ≡ value_of content_length (map (header_bytes bytes) headers)
    → None ≡ refusal_by verb (map (header_bytes bytes) headers) text
    → path ≡ path_of (span_bytes bytes spans.path) → form ≡ form_of (span_bytes bytes spans.path) → closing ≡ closes spans.version (map (header_bytes bytes) headers)
    → (are_digits text ≡ true → len ≡ min (length_in text) (2 ^ 64 - 1))
    → ◌≡◌ {A = Result Plan Refusal} (Ok (record { verb = verb; path = path; form = form; closing = closing; len = len })) (asked_of (Some h))
unfolding asked_of
planned_as bytes headers spans h verb text path form closing len s v t r p f c l =
    let verb_is : verb ≡ verb_of h.method = v ∙ ap verb_of s.method in
    let text_is : text ≡ value_of content_length (fields_of h) = t ∙ ap (value_of content_length) s.fields in
    let fits = fits_by verb (map (header_bytes bytes) headers) text r in
    let len_is : len ≡ length_in text = (let x = l (digits_by text (map (header_bytes bytes) headers) fits.0) in let y = fits.1 in omega (arith, x, y)) in
    let path_is : path ≡ path_of h.target = p ∙ ap path_of s.target in
    let form_is : form ≡ form_of h.target = f ∙ ap form_of s.target in
    let closing_is : closing ≡ closes h.minor (fields_of h) = c ∙ (λ i. closes (s.minor i) (s.fields i)) in
    let len_is2 : len ≡ length_in (value_of content_length (fields_of h)) = len_is ∙ ap length_in text_is in
    (λ i. Ok (record { verb = verb_is i; path = path_is i; form = form_is i; closing = closing_is i; len = len_is2 i }))
    ∙ ap (planned h) (r ∙ (λ i. refusal_by (verb_is i) (s.fields i) (text_is i)))
