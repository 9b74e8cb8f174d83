-- The text of a value, with the line feed at its end, is read as the value.
use Rattle.std.proofs.Common.{ℕ, suc, max, ◌≤◌, Bool, true, false, cond, List, [], ◌∷◌, ◌++◌, Option, Some, option_map, option_and_then, unwrap_or, ◌≡◌, refl, sym, ap, ap₂, ◌∙◌, subst, append_assoc, append-nil}
use Rattle.std.specs.List.{AllByRecursion}
use Rattle.std.specs.List.Sorted.{IsStrictlySortedBy}
use Rattle.json.specs.Json as json
use Rattle.json.specs.Lex.{Lexeme, token, comma, colon, between, lex, punctuate, fresh, string_token, tokens}
use Rattle.json.specs.Print.{escape, print, quoted, token_text}
use Rattle.json.specs.Token as word
use Rattle.json.specs.Token.{Token}
use Rattle.json.specs.Tree as tree
use Rattle.json.specs.Tree.{json_tokens}
use Rattle.json.specs.Word.{ends_word, word as word_at}
use Rattle.json.proofs.Printed.Numbers.{lex-number, in_word-ended}
use Rattle.json.proofs.Printed.Strings.{content-escape, lex-escape}
use Rattle.serde_json.specs.Data.{Data, Items as DataItems, Members as DataMembers, null as d_null, boolean as d_boolean, number as d_number, string, array, object, no_items as no_data, item as data_item, no_members as no_entries, member as entry, put as put_data, depth, items_depth, members_depth}
use Rattle.serde_json.specs.Find.{is_float}
use Rattle.serde_json.specs.Read.{of_json, of_items, of_members, max_depth}
use Rattle.serde_json.specs.Written.{number_text, outline, items_outline, members_outline, blank, blank_items, blank_members, comma_if, compact_text, items_text, members_text}
use Rattle.acceptance.specs.Json.{Json, null, boolean, number, text, list, map, Items, no_items, item, Members, no_members, member, entries, names}
use Rattle.acceptance.specs.Data.{num_of, data_of, items_data, members_data}
use Rattle.schema_trees.specs.Held.{IsInOrder, HasShortNumbers, ItemsHaveShortNumbers, MembersHaveShortNumbers, HasNamesInOrder, ItemsHaveNamesInOrder, MembersHaveNamesInOrder}
use Rattle.schema_core.specs.Document.{text_of}
use Rattle.schema_core.specs.OneText.{TextsAreCompact, TextsReadBack}
use Rattle.schema_core.proofs.InOrder.{members_of, members_of-entries, IsBehind, put_last, all_more, behind_none}
use Rattle.schema_core.proofs.OneText.{digits_read, are_digits, tree_of, tokens_are, tree_read}
use Rattle.schema_core.proofs.Puts.{data_put, number_has_no_float}
use Rattle.serde_json.proofs.Texts.{print-outline}

-- ---- the lexemes of a value, before others

abbrev comma_before : Bool → List Lexeme → List Lexeme
comma_before true more = comma ∷ more
comma_before false more = more

abbrev mutual
  lexemes : Json → List Lexeme → List Lexeme
  lexemes null more = token word.null ∷ more
  lexemes (boolean b) more = token (word.boolean b) ∷ more
  lexemes (number n) more = token (word.number (number_text (num_of n))) ∷ more
  lexemes (text s) more = token (word.string s) ∷ more
  lexemes (list xs) more = token word.begin_array ∷ items_lexemes false xs more
  lexemes (map ms) more = token word.begin_object ∷ members_lexemes false ms more

  items_lexemes : Bool → Items → List Lexeme → List Lexeme
  items_lexemes later no_items more = token word.end_array ∷ more
  items_lexemes later (item x xs) more = comma_before later (lexemes x (items_lexemes true xs more))

  members_lexemes : Bool → Members → List Lexeme → List Lexeme
  members_lexemes later no_members more = token word.end_object ∷ more
  members_lexemes later (member k x ms) more = comma_before later (token (word.string k) ∷ colon ∷ lexemes x (members_lexemes true ms more))

lex-comma : (later : Bool) (rest : List ℕ) → lex between (comma_if later ++ rest) ≡ comma_before later (lex between rest)
unfolding lex
lex-comma true rest = refl
lex-comma false rest = refl

lex-null : (rest : List ℕ) → ends_word rest ≡ true → lex between (token_text word.null ++ rest) ≡ token word.null ∷ lex between rest
unfolding lex word_at
lex-null rest ended = ap₂ (λ b ls. token (cond b word.null word.bad) ∷ ls) ended (in_word-ended rest ended)

lex-boolean : (b : Bool) (rest : List ℕ) → ends_word rest ≡ true → lex between (token_text (word.boolean b) ++ rest) ≡ token (word.boolean b) ∷ lex between rest
unfolding lex word_at
lex-boolean true rest ended = ap₂ (λ b ls. token (cond b (word.boolean true) word.bad) ∷ ls) ended (in_word-ended rest ended)
lex-boolean false rest ended = ap₂ (λ b ls. token (cond b (word.boolean false) word.bad) ∷ ls) ended (in_word-ended rest ended)

lex-quoted : (s rest : List ℕ) → lex between (quoted s ++ rest) ≡ token (word.string s) ∷ lex between rest
unfolding lex
lex-quoted s rest =
    ap (λ xs. lex between (34 ∷ xs)) (append_assoc (escape s) (34 ∷ []) rest)
    ∙ ap₂ (λ o ls. token (string_token o) ∷ ls) (content-escape s rest) (lex-escape s rest)

-- behind a value stands a comma or a bracket
items_end : (xs : Items) (rest : List ℕ) → ends_word (items_text true (items_data xs) ++ rest) ≡ true
items_end no_items rest = refl
items_end (item x xs) rest = refl

members_end : (ms : Members) (rest : List ℕ) → ends_word (members_text true (members_data ms) ++ rest) ≡ true
members_end no_members rest = refl
members_end (member k x ms) rest = refl

mutual
  unfolding lex

  lex-value : (x : Json) (rest : List ℕ) → HasShortNumbers x → ends_word rest ≡ true → lex between (compact_text (data_of x) ++ rest) ≡ lexemes x (lex between rest)
  lex-value null rest h ended = lex-null rest ended
  lex-value (boolean b) rest h ended = lex-boolean b rest ended
  lex-value (number n) rest h ended = lex-number (number_text (num_of n)) rest (are_digits n h) ended
  lex-value (text s) rest h ended = lex-quoted s rest
  lex-value (list xs) rest h ended = ap (λ ls. token word.begin_array ∷ ls) (lex-items false xs rest h)
  lex-value (map ms) rest h ended = ap (λ ls. token word.begin_object ∷ ls) (lex-members false ms rest h)

  lex-items : (later : Bool) (xs : Items) (rest : List ℕ) → ItemsHaveShortNumbers xs → lex between (items_text later (items_data xs) ++ rest) ≡ items_lexemes later xs (lex between rest)
  lex-items later no_items rest h = refl
  lex-items later (item x xs) rest h =
      let value = compact_text (data_of x) in
      let more = items_text true (items_data xs) in
      ap (lex between) (append_assoc (comma_if later) (value ++ more) rest ∙ ap (λ s. comma_if later ++ s) (append_assoc value more rest))
      ∙ lex-comma later (value ++ (more ++ rest))
      ∙ ap (comma_before later) (lex-value x (more ++ rest) h.0 (items_end xs rest) ∙ ap (lexemes x) (lex-items true xs rest h.1))

  lex-members : (later : Bool) (ms : Members) (rest : List ℕ) → MembersHaveShortNumbers ms → lex between (members_text later (members_data ms) ++ rest) ≡ members_lexemes later ms (lex between rest)
  lex-members later no_members rest h = refl
  lex-members later (member k x ms) rest h =
      let value = compact_text (data_of x) in
      let more = members_text true (members_data ms) in
      let regrouped = append_assoc (quoted k) (58 ∷ (value ++ more)) rest ∙ ap (λ s. quoted k ++ 58 ∷ s) (append_assoc value more rest) in
      ap (lex between) (append_assoc (comma_if later) (quoted k ++ 58 ∷ (value ++ more)) rest ∙ ap (λ s. comma_if later ++ s) regrouped)
      ∙ lex-comma later (quoted k ++ 58 ∷ (value ++ (more ++ rest)))
      ∙ ap (comma_before later)
      (lex-quoted k (58 ∷ (value ++ (more ++ rest)))
      ∙ ap (λ ls. token (word.string k) ∷ colon ∷ ls) (lex-value x (more ++ rest) h.0 (members_end ms rest) ∙ ap (lexemes x) (lex-members true ms rest h.1)))

-- the line feed is no token
line_feed : (x : Json) → HasShortNumbers x → tokens (compact_text (data_of x) ++ 10 ∷ []) ≡ tokens (compact_text (data_of x))
unfolding lex
line_feed x h =
    let words = compact_text (data_of x) in
    ap (punctuate fresh) (lex-value x (10 ∷ []) h refl ∙ sym (lex-value x [] h refl) ∙ ap (lex between) (append-nil words))

-- ---- how deep a value and its tree nest

mutual
  same_depth : (d : Data) → tree.depth (outline d) ≡ depth d
  same_depth d_null = refl
  same_depth (d_boolean b) = refl
  same_depth (d_number n) = refl
  same_depth (string s) = refl
  same_depth (array ds) = ap suc (same_items_depth ds)
  same_depth (object ms) = ap suc (same_members_depth ms)

  same_items_depth : (ds : DataItems) → tree.items_depth (items_outline ds) ≡ items_depth ds
  same_items_depth no_data = refl
  same_items_depth (data_item d ds) = ap₂ max (same_depth d) (same_items_depth ds)

  same_members_depth : (ms : DataMembers) → tree.members_depth (members_outline ms) ≡ members_depth ms
  same_members_depth no_entries = refl
  same_members_depth (entry k d ms) = ap₂ max (same_depth d) (same_members_depth ms)

-- ---- the tree is read as the value: each name is put behind those before it

mutual
  unfolding IsStrictlySortedBy

  of_value : (x : Json) → HasShortNumbers x → HasNamesInOrder x → of_json (tree_of x) ≡ Some (data_of x)
  of_value null h o = refl
  of_value (boolean b) h o = refl
  of_value (number n) h o = ap (option_map d_number) (digits_read n h)
  of_value (text s) h o = refl
  of_value (list xs) h o = ap (option_map array) (of_values xs h o)
  of_value (map ms) h o = ap (option_map object) (of_names [] ms h o.1 (behind_none (names (entries ms))) o.0 ∙ ap (λ ns. Some (members_data ns)) (members_of-entries ms))

  of_values : (xs : Items) → ItemsHaveShortNumbers xs → ItemsHaveNamesInOrder xs → of_items (items_outline (items_data xs)) ≡ Some (items_data xs)
  of_values no_items h o = refl
  of_values (item x xs) h o =
      ap (option_and_then (λ d. option_map (data_item d) (of_items (items_outline (items_data xs))))) (of_value x h.0 o.0)
      ∙ ap (option_map (data_item (data_of x))) (of_values xs h.1 o.1)

  of_names : (bs : List (List ℕ × Json)) (ms : Members) → MembersHaveShortNumbers ms → MembersHaveNamesInOrder ms → AllByRecursion (IsBehind bs) (names (entries ms)) → IsInOrder (names (entries ms)) →
      of_members (members_outline (members_data ms)) (members_data (members_of bs)) ≡ Some (members_data (members_of (bs ++ entries ms)))
  of_names bs no_members h o behind order = ap (λ cs. Some (members_data (members_of cs))) (sym (append-nil bs))
  of_names bs (member k x ms) h o behind order =
      let rest = members_outline (members_data ms) in
      let before = members_data (members_of bs) in
      ap (option_and_then (λ d. of_members rest (put_data k d before))) (of_value x h.0 o.0)
      ∙ ap (of_members rest) (data_put k x (members_of bs) ∙ ap members_data (put_last bs k x behind.0))
      ∙ of_names (bs ++ (k, x) ∷ []) ms h.1 o.1 (all_more bs (k, x) (names (entries ms)) behind.1 order.0) order.1
      ∙ ap (λ cs. Some (members_data (members_of cs))) (append_assoc bs ((k, x) ∷ []) (entries ms))

-- ---- the tree has a text for each number

mutual
  blank_tree : (x : Json) → HasShortNumbers x → blank (tree_of x) ≡ tree_of x
  blank_tree null h = refl
  blank_tree (boolean b) h = refl
  blank_tree (number n) h =
      let s = number_text (num_of n) in
      ap json.number (ap (λ o. cond (unwrap_or (option_map is_float o) false) [] s) (digits_read n h) ∙ ap (λ b. cond b [] s) (number_has_no_float n))
  blank_tree (text s) h = refl
  blank_tree (list xs) h = ap json.array (blank_trees xs h)
  blank_tree (map ms) h = ap json.object (blank_named ms h)

  blank_trees : (xs : Items) → ItemsHaveShortNumbers xs → blank_items (items_outline (items_data xs)) ≡ items_outline (items_data xs)
  blank_trees no_items h = refl
  blank_trees (item x xs) h = ap₂ json.item (blank_tree x h.0) (blank_trees xs h.1)

  blank_named : (ms : Members) → MembersHaveShortNumbers ms → blank_members (members_outline (members_data ms)) ≡ members_outline (members_data ms)
  blank_named no_members h = refl
  blank_named (member k x ms) h = ap₂ (json.member k) (blank_tree x h.0) (blank_named ms h.1)

-- ---- the text

abbrev whole : Option (json.Json × List Token) → Option Data
whole o = option_and_then of_json (option_and_then (λ p. json.if_last p.0 p.1) o)

tree_back : (x : Json) → HasShortNumbers x → HasNamesInOrder x → depth (data_of x) ≤ max_depth → whole (json.value max_depth (json_tokens (tree_of x))) ≡ Some (data_of x)
tree_back x h o deep = ap whole (tree_read x max_depth (subst (λ n. n ≤ max_depth) (sym (same_depth (data_of x))) deep)) ∙ of_value x h o

pub texts_read_back : TextsReadBack
unfolding text_of
texts_read_back x h o deep = ap (λ ts. whole (json.value max_depth ts)) (line_feed x h ∙ tokens_are x h) ∙ tree_back x h o deep

pub texts_are_compact : TextsAreCompact
texts_are_compact x h o = record {
  order = (tree_of x, tokens_are x h, blank_tree x h);
  printed = sym (ap print (tokens_are x h) ∙ print-outline (data_of x));
  reads = λ deep. ap (λ ts. whole (json.value max_depth ts)) (tokens_are x h) ∙ tree_back x h o deep;
}
