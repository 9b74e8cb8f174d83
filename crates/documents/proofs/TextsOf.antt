-- Texts of members: one that is put among them, and the object that is written with them.
use Rattle.std.proofs.Common.{◌≡◌, ℕ, suc, max, ◌+◌, ◌<◌, ◌≤◌, List, [], ◌∷◌, ◌++◌, length, drop, get_or, false, Option, Some, Ordering, Less, Equal, Greater, nat_cmp, option_map, option_and_then, refl, sym, ap, ap₂, ◌∙◌, subst, arith, append_assoc, append-nil}
use Rattle.std.proofs.lemmas.Cmp.{nat_list_cmp_total}
use Rattle.std.proofs.lemmas.List.{drop_more, drop_all}
use Rattle.std.specs.BTreeMap.{insert_entry}
use Rattle.std.specs.Cmp.Lexicographic.{slice_cmp}
use Rattle.std.specs.List.{AllByRecursion}
use Rattle.std.specs.List.Sorted.{IsStrictlySortedBy}
use Rattle.std.specs.Map.{keys_of}
use Rattle.std.specs.Ordering.{match_ordering, ordering_reverse}
use Rattle.std.specs.Prelude.{⊤}
use Rattle.json.specs.Json as json
use Rattle.json.specs.Lex.{tokens}
use Rattle.json.specs.Print.{print}
use Rattle.json.specs.Token.{Token, begin_object, end_object, key}
use Rattle.json.specs.Tree as tree
use Rattle.json.specs.Tree.{json_tokens, members_tokens}
use Rattle.json.proofs.Printed.Trees.{value-json_tokens}
use Rattle.serde_json.specs.Data.{Data, null, boolean, number, string, array, object, Items, no_items, item, Members, no_members, member, put, depth, items_depth, members_depth}
use Rattle.serde_json.specs.Read.{of_json, of_members, read, max_depth}
use Rattle.serde_json.specs.Written.{outline, items_outline, members_outline, blank, blank_items, blank_members, IsInOrder}
use Rattle.serde_json.proofs.Texts.{tokens_from_order, print-outline}
use Rattle.documents.specs.Text.{IsJsonOf}
use Rattle.documents.specs.Written.{AreTextsOf, AreNamedInOrder}

abbrev pub Texts : Type 0
Texts = List (List ℕ × List ℕ)

-- ---- a text that is put among others

put_at : (o : Ordering) (k : List ℕ) (d : Data) (t : List ℕ) (e : Data) (x : List ℕ × List ℕ) (ms : Members) (xs : Texts)
    → IsJsonOf false d t → IsJsonOf false e x.1 → AreTextsOf ms xs → AreTextsOf (put k d ms) (insert_entry (slice_cmp nat_cmp) xs k t)
    → AreTextsOf (match_ordering o (member k d (member x.0 e ms)) (member x.0 d ms) (member x.0 e (put k d ms))) (match_ordering o ((k, t) ∷ x ∷ xs) ((x.0, t) ∷ xs) (x ∷ insert_entry (slice_cmp nat_cmp) xs k t))
put_at Less k d t e x ms xs new old more later = (refl, new, (refl, old, more))
put_at Equal k d t e x ms xs new old more later = (refl, new, more)
put_at Greater k d t e x ms xs new old more later = (refl, old, later)

pub texts_put : (ms : Members) (xs : Texts) (k : List ℕ) (d : Data) (t : List ℕ) → AreTextsOf ms xs → IsJsonOf false d t → AreTextsOf (put k d ms) (insert_entry (slice_cmp nat_cmp) xs k t)
texts_put no_members [] k d t h new = (refl, new, tt)
texts_put no_members (x ∷ xs) k d t h new = absurd h
texts_put (member l e ms) [] k d t h new = absurd h
texts_put (member l e ms) (x ∷ xs) k d t h new =
    subst (λ n. AreTextsOf (put k d (member n e ms)) (insert_entry (slice_cmp nat_cmp) (x ∷ xs) k t)) h.0
    (put_at (slice_cmp nat_cmp k x.0) k d t e x ms xs new h.1 h.2 (texts_put ms xs k d t h.2 new))

-- ---- the first of the texts

-- the value of the first text, and the members behind it
pub record First (values : Members) (x : List ℕ × List ℕ) (xs : Texts) : Type 0 where
  pub value : Data
  pub behind : Members
  pub all : values ≡ member x.0 value behind
  pub json : IsJsonOf false value x.1
  pub texts : AreTextsOf behind xs

pub first_of : (values : Members) (x : List ℕ × List ℕ) (xs : Texts) → AreTextsOf values (x ∷ xs) → First values x xs
first_of no_members x xs h = absurd h
first_of (member k d ms) x xs h = record { value = d; behind = ms; all = ap (λ n. member n d ms) (sym h.0); json = h.1; texts = h.2 }

-- no text is that of no member
pub none_of : (values : Members) (xs : Texts) → xs ≡ [] → AreTextsOf values xs → values ≡ no_members
none_of no_members xs is h = refl
none_of (member k d ms) [] is h = absurd h
none_of (member k d ms) (x ∷ xs) is h = absurd (cc)

-- ---- the tokens of an object, and its tree

abbrev pub member_tokens : Texts → List Token
member_tokens [] = end_object ∷ []
member_tokens (x ∷ xs) = key x.0 ∷ (tokens x.1 ++ member_tokens xs)

abbrev trees : (values : Members) (xs : Texts) → AreTextsOf values xs → json.Members
trees no_members xs h = json.no_members
trees (member k d ms) [] h = json.no_members
trees (member k d ms) (x ∷ xs) h = json.member k h.1.order.0 (trees ms xs h.2)

tokens_are : (values : Members) (xs : Texts) (h : AreTextsOf values xs) → member_tokens xs ≡ members_tokens (trees values xs h)
tokens_are no_members [] h = refl
tokens_are no_members (x ∷ xs) h = absurd h
tokens_are (member k d ms) [] h = absurd h
tokens_are (member k d ms) (x ∷ xs) h = ap₂ (λ n ts. key n ∷ ts) h.0 (ap₂ (λ ts us. ts ++ us) h.1.order.1 (tokens_are ms xs h.2))

blanks_are : (values : Members) (xs : Texts) (h : AreTextsOf values xs) → blank_members (trees values xs h) ≡ members_outline values
blanks_are no_members xs h = refl
blanks_are (member k d ms) [] h = absurd h
blanks_are (member k d ms) (x ∷ xs) h = ap₂ (json.member k) h.1.order.2 (blanks_are ms xs h.2)

-- ---- how deep a tree nests

mutual
  blank_depth : (j : json.Json) → tree.depth (blank j) ≡ tree.depth j
  blank_depth json.null = refl
  blank_depth (json.boolean b) = refl
  blank_depth (json.number s) = refl
  blank_depth (json.string s) = refl
  blank_depth (json.array js) = ap suc (blank_items_depth js)
  blank_depth (json.object ms) = ap suc (blank_members_depth ms)

  blank_items_depth : (js : json.Items) → tree.items_depth (blank_items js) ≡ tree.items_depth js
  blank_items_depth json.no_items = refl
  blank_items_depth (json.item j js) = ap₂ max (blank_depth j) (blank_items_depth js)

  blank_members_depth : (ms : json.Members) → tree.members_depth (blank_members ms) ≡ tree.members_depth ms
  blank_members_depth json.no_members = refl
  blank_members_depth (json.member k j ms) = ap₂ max (blank_depth j) (blank_members_depth ms)

mutual
  outline_depth : (d : Data) → tree.depth (outline d) ≡ depth d
  outline_depth null = refl
  outline_depth (boolean b) = refl
  outline_depth (number n) = refl
  outline_depth (string s) = refl
  outline_depth (array ds) = ap suc (outline_items_depth ds)
  outline_depth (object ms) = ap suc (outline_members_depth ms)

  outline_items_depth : (ds : Items) → tree.items_depth (items_outline ds) ≡ items_depth ds
  outline_items_depth no_items = refl
  outline_items_depth (item d ds) = ap₂ max (outline_depth d) (outline_items_depth ds)

  outline_members_depth : (ms : Members) → tree.members_depth (members_outline ms) ≡ members_depth ms
  outline_members_depth no_members = refl
  outline_members_depth (member k d ms) = ap₂ max (outline_depth d) (outline_members_depth ms)

-- ---- what a text reads as

abbrev whole : Option (json.Json × List Token) → Option Data
whole o = option_and_then of_json (option_and_then (λ p. json.if_last p.0 p.1) o)

-- a text whose tree is a value's reads as the tree does
read_tree : (j : json.Json) (d : Data) (text : List ℕ) → tokens text ≡ json_tokens j → blank j ≡ outline d → depth d ≤ max_depth → read text ≡ of_json j
read_tree j d text is same shallow =
    let deep : tree.depth j ≡ depth d = sym (blank_depth j) ∙ ap tree.depth same ∙ outline_depth d in
    let enough : tree.depth j ≤ max_depth = subst (λ n. n ≤ max_depth) (sym deep) shallow in
    ap (λ ts. whole (json.value max_depth ts)) (is ∙ sym (append-nil (json_tokens j))) ∙ ap whole (value-json_tokens j max_depth [] enough)

abbrev join : Members → Members → Members
join no_members ns = ns
join (member k d ms) ns = member k d (join ms ns)

join-none : (ms : Members) → join ms no_members ≡ ms
join-none no_members = refl
join-none (member k d ms) = ap (member k d) (join-none ms)

join-member : (ms : Members) (k : List ℕ) (d : Data) (ns : Members) → join (join ms (member k d no_members)) ns ≡ join ms (member k d ns)
join-member no_members k d ns = refl
join-member (member l e ms) k d ns = ap (member l e) (join-member ms k d ns)

-- the name stands behind each of the members
abbrev IsBehind : Members → List ℕ → Type 0
IsBehind no_members k = ⊤
IsBehind (member l d ms) k = (slice_cmp nat_cmp l k ≡ Less) × IsBehind ms k

behind_none : (ks : List (List ℕ)) → AllByRecursion (IsBehind no_members) ks
behind_none [] = tt
behind_none (k ∷ ks) = (tt, behind_none ks)

behind_more : (ms : Members) (k l : List ℕ) (d : Data) → IsBehind ms l → slice_cmp nat_cmp k l ≡ Less → IsBehind (join ms (member k d no_members)) l
behind_more no_members k l d h less = (less, tt)
behind_more (member m e ms) k l d h less = (h.0, behind_more ms k l d h.1 less)

all_more : (ms : Members) (k : List ℕ) (d : Data) (ks : List (List ℕ)) → AllByRecursion (IsBehind ms) ks → AllByRecursion (λ y. slice_cmp nat_cmp k y ≡ Less) ks → AllByRecursion (IsBehind (join ms (member k d no_members))) ks
all_more ms k d [] h less = tt
all_more ms k d (l ∷ ks) h less = (behind_more ms k l d h.0 less.0, all_more ms k d ks h.1 less.1)

put_last : (ms : Members) (k : List ℕ) (d : Data) → IsBehind ms k → put k d ms ≡ join ms (member k d no_members)
put_last no_members k d h = refl
put_last (member l e ms) k d h =
    let above : slice_cmp nat_cmp k l ≡ Greater = nat_list_cmp_total.antisymm k l ∙ ap ordering_reverse h.0 in
    rw above (ap (member l e) (put_last ms k d h.1))

-- each member that is read goes behind those before it
read_members : (found values : Members) (xs : Texts) (h : AreTextsOf values xs) → members_depth values ≤ max_depth → AllByRecursion (IsBehind found) (keys_of xs) → AreNamedInOrder xs
    → of_members (trees values xs h) found ≡ Some (join found values)
unfolding IsStrictlySortedBy
read_members found no_members xs h shallow behind order = ap (λ ms. Some ms) (sym (join-none found))
read_members found (member k d ms) [] h shallow behind order = absurd h
read_members found (member k d ms) (x ∷ xs) h shallow behind order =
    let least : depth d ≤ max_depth = omega arith in
    let rest : members_depth ms ≤ max_depth = omega arith in
    let one : of_json h.1.order.0 ≡ Some d = sym (read_tree h.1.order.0 d x.1 h.1.order.1 h.1.order.2 least) ∙ h.1.reads least in
    ap (option_and_then (λ e. of_members (trees ms xs h.2) (put k e found))) one
    ∙ ap (of_members (trees ms xs h.2)) (put_last found k d (subst (IsBehind found) h.0 behind.0))
    ∙ read_members (join found (member k d no_members)) ms xs h.2 rest (all_more found k d (keys_of xs) behind.1 (subst (λ n. AllByRecursion (λ y. slice_cmp nat_cmp n y ≡ Less) (keys_of xs)) h.0 order.0)) order.1
    ∙ ap (λ ns. Some ns) (join-member found k d ms)

-- ---- the text of an object

pub object_json : (values : Members) (xs : Texts) (text : List ℕ) → AreTextsOf values xs → AreNamedInOrder xs → tokens text ≡ begin_object ∷ member_tokens xs → text ≡ print (tokens text)
    → IsJsonOf false (object values) text
object_json values xs text h order same printed =
    let j = json.object (trees values xs h) in
    let is : tokens text ≡ json_tokens j = same ∙ ap (λ ts. begin_object ∷ ts) (tokens_are values xs h) in
    let outlined : blank j ≡ outline (object values) = ap json.object (blanks_are values xs h) in
    let ordered : IsInOrder text (object values) = (j, is, outlined) in
    record {
      reads = λ shallow. read_tree j (object values) text is outlined shallow ∙ ap (option_map object) (read_members no_members values xs h (omega arith) (behind_none (keys_of xs)) order);
      order = ordered;
      layout = (printed, λ none. printed ∙ ap print (tokens_from_order text (object values) ordered none) ∙ print-outline (object values));
    }

-- what is written with the tokens of one more text
pub more_tokens : (out keyed more : List Token) (k t : List ℕ) (x : List ℕ × List ℕ) (rest all : Texts) → keyed ≡ out ++ key k ∷ [] → more ≡ keyed ++ tokens t → k ≡ x.0 → t ≡ x.1 → all ≡ x ∷ rest
    → more ++ member_tokens rest ≡ out ++ member_tokens all
more_tokens out keyed more k t x rest all with_key with_text named is steps =
    ap (λ (ts : List Token). ts ++ member_tokens rest) (with_text ∙ ap₂ (λ (ts : List Token) s. ts ++ tokens s) (with_key ∙ ap (λ n. out ++ key n ∷ []) named) is ∙ append_assoc out (key x.0 ∷ []) (tokens x.1))
    ∙ append_assoc out (key x.0 ∷ tokens x.1) (member_tokens rest)
    ∙ ap (λ ts. out ++ member_tokens ts) (sym steps)

-- the first of the texts that are left
pub after_item : (left : Members) (xs : Texts) (i : ℕ) (x : List ℕ × List ℕ) → x ≡ get_or xs i x → i < length xs → AreTextsOf left (drop i xs) → First left x (drop (i + 1) xs)
after_item left xs i x is within h = subst (λ y. First left y (drop (i + 1) xs)) (sym is) (first_of left (get_or xs i x) (drop (i + 1) xs) (subst (AreTextsOf left) (drop_more xs i x within) h))

-- no member is left where no text is
pub none_left : (left : Members) (xs : Texts) (i : ℕ) → length xs ≤ i → AreTextsOf left (drop i xs) → left ≡ no_members
none_left left xs i past h = none_of left (drop i xs) (drop_all i xs past) h
