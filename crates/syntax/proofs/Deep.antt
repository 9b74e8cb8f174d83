-- Readers of items stop for depth at the first type that nests too deep, and nowhere else.
use Rattle.std.proofs.Common.{◌≡◌, ◌∙◌, ℕ, zero, suc, ◌<◌, inl, inr, List, [], ◌∷◌, ◌++◌, length, refl, ap, sym, subst, arith, Bool, true, false, cond, Option, Some, None, Result, Ok, Err}
use Rattle.texts.specs.declared.span.Span.{Span}
use Rattle.tokens.specs.declared.token.Bracket.{Bracket}
use Rattle.tokens.specs.declared.token.Bracket.TheVariants.{Round, Square, Curly}
use Rattle.tokens.specs.Trees.{Trees}
use Rattle.written_types.specs.declared.written.Ident.{Ident}
use Rattle.written_types.specs.Written.{Written}
use Rattle.words.specs.declared.vocabulary.Keyword.{Keyword}
use Rattle.words.specs.declared.vocabulary.Keyword.TheVariants.{Struct, Enum, Use}
use Rattle.words.specs.declared.vocabulary.Sign.TheVariants.{Colon, Comma, Semicolon, Less, Equals, Hash, Exclamation}
use Rattle.words.specs.Words.{Word, name, underscore, keyword, sign, lifetime, literal, doc, group, words_of}
use Rattle.words.specs.Reading.{Fault, deep, wrong, Read, ◌>>=◌, as_name, as_keyword, as_sign, as_group, name_at, keyword_at, sign_at, group_at}
use Rattle.type_grammar.specs.Opening.{Passes, OpensList, in_first, behind, most_levels}
use Rattle.type_grammar.specs.Reading.{type_at}
use Rattle.type_grammar.proofs.Laws.{Agrees, read_passes, passed_reads}
use Rattle.words.specs.Lists.{after_comma, turn_at, many_at, many_of, itself, list_of}
use Rattle.attributes.specs.Attributes.{AttributeItem}
use Rattle.attributes.specs.AttributeWords.{is_inner_doc}
use Rattle.attributes.specs.AttributeGrammar.{IsAttributes}
use Rattle.attributes.proofs.Laws.{attributes_sound, attributes_no_longer}
use Rattle.syntax.specs.Items.{FieldItem, FieldItems, named, unnamed, VariantItem, ParameterItem, struct_body, enum_body, HeadItem, DeclaredItem}
use Rattle.words.specs.Visibility.{after_semicolon, is_end}
use Rattle.syntax.specs.ItemWords.{before_comma, from_comma}
use Rattle.syntax.specs.ItemGrammar.{IsVisibility, IsNamedField, IsUnnamedField, IsFields, unnamed_fields, IsVariant, use_line}
use Rattle.syntax.specs.ItemDepth.{within_levels, OpensNamed, in_named, OpensUnnamed, in_unnamed, OpensFields, in_named_fields, in_unnamed_fields, OpensVariant, in_variant_fields, OpensGenerics, OpensWhere, in_predicates, OpensStructBody, in_first_clause, in_braced, in_tuple, in_last_clause, OpensStruct, in_struct_generics, in_struct_body, OpensEnumBody, in_enum_clause, in_variants, OpensEnum, in_enum_generics, in_enum_body, OpensDeclaration, in_struct, in_enum, OpensItems, in_declaration, behind_use, behind_declaration, OpensSource, behind_inner_doc, behind_inner_attribute, in_items}
use Rattle.syntax.specs.Generics.{IsGenerics, IsWhere, no_where, where_clause}
use Rattle.syntax.specs.GenericReading.{generics_at, after_where}
use Rattle.syntax.specs.ItemReading.{after_visibility, field_of, named_field_at, unnamed_field_at, fields_in, fields_at, without_fields, begins_group, tuple_body_at, other_body_at, struct_body_at, value_or_none, discriminant_at, variant_of, variant_at, head_of, struct_at, enum_body_at, enum_at, struct_or_enum, declaration_at, left_by, use_or_declaration, item_at, kept, after_inner_attribute, inner_at, inner_from, after_inner_within, after_inner, items_at, source_at}
use Rattle.words.proofs.Laws.{bind_ok, bind_err, ok_is, first_shallow, name-is, keyword-is, sign-is, group-is, Shortens, comma_read, turn_sound, turn_shortens, Ends, at_comma, turn_finds, turn_deep, more_deep, first_deep}
use Rattle.syntax.proofs.Fronts.{visibility_sound, visibility_no_longer, NoInner, attributes_no_inner, visibility_no_inner}
use Rattle.syntax.proofs.SoundGenerics.{generics_sound, where_sound}
use Rattle.syntax.proofs.CompleteGenerics.{generics_complete, where_complete}
use Rattle.syntax.proofs.DeepGenerics.{anywhere, reaches, sound, found, past, past_attributes, handed_on, generics_agree, where_agrees}
use Rattle.syntax.proofs.Inner.{inner_step, inner_stop}
use Rattle.syntax.proofs.Types.{type_sound, type_agrees, opens_begins, scope_shallow}
use Rattle.words.proofs.Laws as lists
use Rattle.syntax.proofs.Sound.{ItemRead, named_shorter, unnamed_shorter, variant_shorter, use_shorter, declaration_shorter, named_shortens, unnamed_shortens, variant_shortens, item_shortens}
use Rattle.syntax.proofs.Sound as items
use Rattle.syntax.proofs.Complete.{type_visibility, begins_type_alone, inner_doc_at, declaration_no_inner, variant_end, struct_end, enum_end, in_enum_braces, item_end, named_head, unnamed_head, variant_head, use_head, struct_head, enum_head}
use Rattle.syntax.proofs.Complete as complete

abbrev ty : List Word → Read Written
ty = type_at most_levels

-- what is deep at one place alone is deep there
abbrev only : Span → Span → Type 0
only at place = place ≡ at

there : {A : Type 0} (r : Result A Fault) (at : Span) → lists.IsDeep (only at) r → r ≡ Err (deep at)
there r at d = d.1 ∙ ap (λ v. Err (deep v)) d.2

told : {A : Type 0} (r : Result A Fault) (at : Span) → r ≡ Err (deep at) → lists.IsDeep (only at) r
told r at e = (at, e, refl)

comma_shallow : (ws : List Word) (at : Span) → after_comma ws ≡ Err (deep at) → ⊥
comma_shallow [] at e = cc
comma_shallow (w ∷ ws) at e = first_shallow (as_sign Comma) (w ∷ ws) at (handed_on (sign_at Comma (w ∷ ws)) (λ p. p.1) at e)

turn_from : {A : Type 0} (item : List Word → Read A) (ws : List Word) (at : Span) → turn_at item ws ≡ Err (deep at) → item ws ≡ Err (deep at)
unfolding turn_at
turn_from item ws at e = elim (bind_err (item ws) e) [
  | inl h ↦ h
  | inr h ↦ absurd (comma_shallow h.0.1 at (handed_on (after_comma h.0.1) (λ rest. (h.0.0, rest)) at h.2))
]

none_deep : {A B : Type 0} (keep : A → List B) (item : List Word → Read A) (n : ℕ) (at : Span) → many_at keep item n [] ≡ Err (deep at) → ⊥
unfolding many_at
none_deep keep item zero at e = cc
none_deep keep item (suc n) at e = cc

-- ---- lists
module _ {A : Type 0} (item : List Word → Read A) (IsItem : List Word → A → List Word → Type 0) (Opens : List Word → Span → Type 0) (agrees : Agrees item Opens) (shortens : Shortens item)
    (item_sound : (ws : List Word) (x : A) (rest : List Word) → item ws ≡ Ok (x, rest) → IsItem ws x rest) (shorter : (ws rest : List Word) (x : A) → IsItem ws x rest → length rest < length ws)
    (item_complete : (ws rest : List Word) (x : A) → IsItem ws x rest → Ends rest → lists.Finds anywhere (item ws) (x, rest)) (some : (ws : List Word) (at : Span) → Opens ws at → 0 < length ws) where
  list_within : (n : ℕ) (ws : List Word) (at : Span) → many_at itself (turn_at item) n ws ≡ Err (deep at) → OpensList IsItem Opens ws at
  unfolding many_at
  list_within zero ws at e = cc
  list_within (suc n) [] at e = cc
  list_within (suc n) (w ∷ ws) at e = elim (bind_err (turn_at item (w ∷ ws)) e) [
    | inl h ↦ in_first ((agrees (w ∷ ws) at).0 (turn_from item (w ∷ ws) at h))
    | inr h ↦
        let others = handed_on (many_at itself (turn_at item) n h.0.1) (λ xs. h.0.0 ∷ xs) at h.2 in
        let t = turn_sound item (w ∷ ws) h.0.0 h.0.1 h.1 in
        elim (comma_read t.0 h.0.1 t.2) [
          | inl k ↦ absurd (none_deep itself (turn_at item) n at (subst (λ v. many_at itself (turn_at item) n v ≡ Err (deep at)) k.1 others))
          | inr k ↦ behind (item_sound (w ∷ ws) h.0.0 _ (subst (λ v. item (w ∷ ws) ≡ Ok (h.0.0, v)) k.1 t.1)) (read_passes agrees (w ∷ ws) (h.0.0, t.0) t.1) (list_within n h.0.1 at others)
        ]
  ]

  list_opens : {ws : List Word} {at : Span} → OpensList IsItem Opens ws at → list_of item ws ≡ Err (deep at)
  list_opens (in_first {at = at} {ws = ws} o) =
      there (list_of item ws) at (first_deep (only at) itself (turn_at item) (turn_shortens item shortens) ws (some ws at o) (turn_deep (only at) item ws (told (item ws) at ((agrees ws at).1 o))))
  list_opens (behind {s = s} {at = at} {ws = ws} {mid = mid} {x = x} r passes o) =
      let less = shorter ws (sign Comma s ∷ mid) x r in
      let read = passed_reads agrees ws (x, sign Comma s ∷ mid) (reaches (item_complete ws (sign Comma s ∷ mid) x r at_comma)) passes in
      there (list_of item ws) at
      (more_deep (only at) itself (turn_at item) (turn_shortens item shortens) ws mid x (omega arith) (turn_finds (only at) item ws (sign Comma s ∷ mid) mid x (inl read) refl) (told (list_of item mid) at (list_opens o)))

  list_agrees : Agrees (list_of item) (OpensList IsItem Opens)
  unfolding many_of
  list_agrees ws at = (λ e. list_within (suc (length ws)) ws at e, λ o. list_opens o)

-- ---- fields
named_deep : (ws : List Word) (at : Span) → named_field_at ty ws ≡ Err (deep at) → OpensNamed ws at
unfolding named_field_at
named_deep ws at e =
    let d = past_attributes ws _ at e in
    let us = after_visibility false d.0.1 in
    let x = past as_name us _ at d.2 in
    let c = past (as_sign Colon) x.0.1 _ at x.2 in
    let is : us ≡ name x.0.0 ∷ sign Colon c.0.0 ∷ c.0.1 = name-is us x.0 x.1 ∙ ap (λ v. name x.0.0 ∷ v) (sign-is Colon x.0.1 c.0 c.1) in
    in_named (attributes_sound ws d.0.0 d.0.1 d.1) (subst (λ v. IsVisibility d.0.1 v) is (visibility_sound false d.0.1)) ((type_agrees most_levels c.0.1 at).0 (handed_on (ty c.0.1) _ at c.2))

named_opens : {ws : List Word} {at : Span} → OpensNamed ws at → named_field_at ty ws ≡ Err (deep at)
named_opens (in_named {x = x} {at = at} {attrs = attrs} {us = us} {vs = vs} d v o) =
    let f : Written × List Word → Read FieldItem = λ t. Ok (field_of attrs (Some x) us t) in
    named_head ty d v ∙ ap (λ r. r >>= f) ((type_agrees most_levels vs at).1 o)

named_some : (ws : List Word) (at : Span) → OpensNamed ws at → 0 < length ws
named_some ws at (in_named d v o) = omega (arith, attributes_no_longer d, visibility_no_longer v)

list_named : Agrees (list_of (named_field_at ty)) (OpensList IsNamedField OpensNamed)
list_named =
    list_agrees (named_field_at ty) IsNamedField OpensNamed (λ ws at. (λ e. named_deep ws at e, λ o. named_opens o)) (named_shortens ty (type_sound most_levels)) (items.named_sound ty (type_sound most_levels)) (λ ws rest x r. named_shorter r)
    (complete.named_complete ty sound.types anywhere found.types) named_some

unnamed_deep : (ws : List Word) (at : Span) → unnamed_field_at ty ws ≡ Err (deep at) → OpensUnnamed ws at
unfolding unnamed_field_at
unnamed_deep ws at e =
    let d = past_attributes ws _ at e in
    let us = after_visibility true d.0.1 in
    in_unnamed (attributes_sound ws d.0.0 d.0.1 d.1) (visibility_sound true d.0.1) ((type_agrees most_levels us at).0 (handed_on (ty us) _ at d.2))

unnamed_opens : {ws : List Word} {at : Span} → OpensUnnamed ws at → unnamed_field_at ty ws ≡ Err (deep at)
unnamed_opens (in_unnamed {at = at} {attrs = attrs} {us = us} {vs = vs} d v o) =
    let f : Written × List Word → Read FieldItem = λ t. Ok (field_of attrs None us t) in
    let b = opens_begins vs at o in
    let passed = type_visibility v b (λ g s more is h. absurd (scope_shallow vs more at s g o is h)) in
    unnamed_head ty d v (begins_type_alone vs b) passed ∙ ap (λ r. r >>= f) ((type_agrees most_levels vs at).1 o)

unnamed_some : (ws : List Word) (at : Span) → OpensUnnamed ws at → 0 < length ws
unnamed_some ws at (in_unnamed {vs = vs} d v o) =
    let b = opens_begins vs at o in
    let more : length vs ≡ suc (length b.1) = ap length b.2 in
    omega (arith, attributes_no_longer d, visibility_no_longer v)

list_unnamed : Agrees (list_of (unnamed_field_at ty)) (OpensList IsUnnamedField OpensUnnamed)
list_unnamed =
    list_agrees (unnamed_field_at ty) IsUnnamedField OpensUnnamed (λ ws at. (λ e. unnamed_deep ws at e, λ o. unnamed_opens o)) (unnamed_shortens ty (type_sound most_levels)) (items.unnamed_sound ty (type_sound most_levels))
    (λ ws rest x r. unnamed_shorter r) (complete.unnamed_complete ty sound.types anywhere found.types) unnamed_some

-- what follows the name of a struct or of a variant
fields_in_deep : (b : Bracket) (inside : Trees) (s : Span) (ws : List Word) (at : Span) → fields_in ty b (words_of inside) ws ≡ Err (deep at) → OpensFields (group b inside s ∷ ws) at
fields_in_deep Curly inside s ws at e = in_named_fields ((list_named (words_of inside) at).0 (handed_on (list_of (named_field_at ty) (words_of inside)) _ at e))
fields_in_deep Round inside s ws at e = in_unnamed_fields ((list_unnamed (words_of inside) at).0 (handed_on (list_of (unnamed_field_at ty) (words_of inside)) _ at e))
fields_in_deep Square inside s ws at e = cc

fields_deep : (ws : List Word) (at : Span) → fields_at ty ws ≡ Err (deep at) → OpensFields ws at
unfolding fields_at
fields_deep [] at e = cc
fields_deep (name x ∷ ws) at e = cc
fields_deep (underscore x ∷ ws) at e = cc
fields_deep (keyword k x ∷ ws) at e = cc
fields_deep (sign k s ∷ ws) at e = cc
fields_deep (lifetime x ∷ ws) at e = cc
fields_deep (literal t ∷ ws) at e = cc
fields_deep (doc t ∷ ws) at e = cc
fields_deep (group b inside s ∷ ws) at e = fields_in_deep b inside s ws at e

fields_open : {ws : List Word} {at : Span} → OpensFields ws at → fields_at ty ws ≡ Err (deep at)
unfolding fields_at
fields_open (in_named_fields {inside = inside} {at = at} {rest = rest} o) =
    let f : List FieldItem → Read FieldItems = λ fs. Ok (named fs, rest) in
    ap (λ r. r >>= f) ((list_named (words_of inside) at).1 o)
fields_open (in_unnamed_fields {inside = inside} {at = at} {rest = rest} o) =
    let f : List FieldItem → Read FieldItems = λ fs. Ok (unnamed fs, rest) in
    ap (λ r. r >>= f) ((list_unnamed (words_of inside) at).1 o)

fields_agree : Agrees (fields_at ty) OpensFields
fields_agree ws at = (λ e. fields_deep ws at e, λ o. fields_open o)

-- ---- variants
-- nothing in a discriminant is deep
value_shallow : (ws : List Word) (b : Bool) (at : Span) → ◌≡◌ {A = Read (Option (List Word))} (cond {A = Read (Option (List Word))} b (Err wrong) (Ok (Some (before_comma ws), from_comma ws))) (Err (deep at)) → ⊥
value_shallow ws true at e = cc
value_shallow ws false at e = cc

value_or_none_shallow : (ws : List Word) (r : Read Span) (at : Span) → value_or_none ws r ≡ Err (deep at) → ⊥
value_or_none_shallow ws (Ok s) at e = value_shallow s.1 (is_end (before_comma s.1)) at e
value_or_none_shallow ws (Err f) at e = cc

discriminant_shallow : (ws : List Word) (at : Span) → discriminant_at ws ≡ Err (deep at) → ⊥
unfolding discriminant_at
discriminant_shallow ws at e = value_or_none_shallow ws (sign_at Equals ws) at e

variant_deep : (ws : List Word) (at : Span) → variant_at ty ws ≡ Err (deep at) → OpensVariant ws at
unfolding variant_at
variant_deep ws at e =
    let d = past_attributes ws _ at e in
    let x = past as_name d.0.1 _ at d.2 in
    let is : d.0.1 ≡ name x.0.0 ∷ x.0.1 = name-is d.0.1 x.0 x.1 in
    elim (bind_err (fields_at ty x.0.1) x.2) [
      | inl h ↦ in_variant_fields (subst (λ us. IsAttributes ws d.0.0 us) is (attributes_sound ws d.0.0 d.0.1 d.1)) (fields_deep x.0.1 at h)
      | inr h ↦ absurd (discriminant_shallow h.0.1 at (handed_on (discriminant_at h.0.1) (λ value. variant_of d.0.0 x.0.0 d.0.1 h.0.0 value) at h.2))
    ]

variant_opens : {ws : List Word} {at : Span} → OpensVariant ws at → variant_at ty ws ≡ Err (deep at)
variant_opens (in_variant_fields {x = x} {attrs = attrs} {vs = vs} d o) = variant_head ty d ∙ ap (λ r. r >>= variant_end attrs x (name x ∷ vs)) (fields_open o)

variant_some : (ws : List Word) (at : Span) → OpensVariant ws at → 0 < length ws
variant_some ws at (in_variant_fields d o) = omega (arith, attributes_no_longer d)

list_variants : Agrees (list_of (variant_at ty)) (OpensList IsVariant OpensVariant)
list_variants =
    list_agrees (variant_at ty) IsVariant OpensVariant (λ ws at. (λ e. variant_deep ws at e, λ o. variant_opens o)) (variant_shortens ty (type_sound most_levels)) (items.variant_sound ty (type_sound most_levels)) (λ ws rest x r. variant_shorter r)
    (complete.variant_complete ty sound.types anywhere found.types) variant_some

-- ---- declarations
-- the body of a struct
tuple_deep : (ws : List Word) (at : Span) → begins_group Round ws ≡ true → tuple_body_at within_levels ws ≡ Err (deep at) → OpensStructBody ws at
unfolding tuple_body_at
tuple_deep ws at b e =
    let g = items.group_first Round ws b in
    elim (bind_err (fields_at ty ws) e) [
      | inl k ↦ subst (λ v. OpensStructBody v at) (sym g.3) (in_tuple (subst (λ v. OpensFields v at) g.3 (fields_deep ws at k)))
      | inr k ↦
          let form = items.unnamed_there within_levels g.0 g.1 g.2 k.0.0 k.0.1 (ap (fields_at ty) (sym g.3) ∙ k.1) in
          let fields = subst (λ v. IsFields ws v k.0.1) form.1 (items.fields_sound ty sound.types ws k.0.0 k.0.1 k.1) in
          elim (bind_err (after_where within_levels k.0.1) k.2) [
            | inl w ↦ in_last_clause fields (read_passes fields_agree ws k.0 k.1) ((where_agrees k.0.1 at).0 w)
            | inr w ↦ absurd (first_shallow (as_sign Semicolon) w.0 at (handed_on (sign_at Semicolon w.0) _ at w.2))
          ]
    ]

behind_where_deep : (ws us : List Word) (at : Span) → IsWhere ws us → Passes OpensWhere ws → (b : Bool) → begins_group Curly us ≡ b → cond b (fields_at ty us) (without_fields us) ≡ Err (deep at) → OpensStructBody ws at
behind_where_deep ws us at w passes true is e =
    let g = items.group_first Curly us is in
    in_braced (subst (λ v. IsWhere ws v) g.3 w) passes (subst (λ v. OpensFields v at) g.3 (fields_deep us at e))
behind_where_deep ws us at w passes false is e = absurd (first_shallow (as_sign Semicolon) us at (handed_on (sign_at Semicolon us) _ at e))

other_deep : (ws : List Word) (at : Span) → other_body_at within_levels ws ≡ Err (deep at) → OpensStructBody ws at
unfolding other_body_at
other_deep ws at e =
    elim (bind_err (after_where within_levels ws) e) [
      | inl w ↦ in_first_clause ((where_agrees ws at).0 w)
      | inr w ↦ behind_where_deep ws w.0 at (where_sound within_levels sound ws w.0 w.1) (read_passes where_agrees ws w.0 w.1) (begins_group Curly w.0) refl w.2
    ]

body_from_deep : (ws : List Word) (at : Span) (b : Bool) → begins_group Round ws ≡ b → cond b (tuple_body_at within_levels ws) (other_body_at within_levels ws) ≡ Err (deep at) → OpensStructBody ws at
body_from_deep ws at true is e = tuple_deep ws at is e
body_from_deep ws at false is e = other_deep ws at e

body_deep : (ws : List Word) (at : Span) → struct_body_at within_levels ws ≡ Err (deep at) → OpensStructBody ws at
unfolding struct_body_at
body_deep ws at e = body_from_deep ws at (begins_group Round ws) refl e

where_first : {ws : List Word} {at : Span} → OpensWhere ws at → begins_group Round ws ≡ false
where_first (in_predicates o) = refl

braces_first : {ws : List Word} {inside : Trees} {s : Span} {rest : List Word} → IsWhere ws (group Curly inside s ∷ rest) → begins_group Round ws ≡ false
braces_first no_where = refl
braces_first (where_clause l) = refl

abbrev braced : List Word → Read FieldItems
braced us = cond (begins_group Curly us) (fields_at ty us) (without_fields us)

abbrev after_tuple : FieldItems × List Word → Read FieldItems
after_tuple fs = after_where within_levels fs.1 >>= λ us. sign_at Semicolon us >>= λ end. Ok (fs.0, end.1)

tuple_opens : {ws us : List Word} {fs : List FieldItem} {at : Span} → IsFields ws (unnamed fs) us → Passes OpensFields ws → OpensWhere us at → struct_body_at within_levels ws ≡ Err (deep at)
unfolding struct_body_at tuple_body_at
tuple_opens {us = us} {fs = fs} {at = at} (unnamed_fields {inside = inside} {s = s} l) passes o =
    let whole = group Round inside s ∷ us in
    let read = passed_reads fields_agree whole (unnamed fs, us) (reaches (complete.fields_complete ty sound.types anywhere found.types (unnamed_fields l) tt)) passes in
    let done : List Word → Read FieldItems = λ us. sign_at Semicolon us >>= λ end. Ok (unnamed fs, end.1) in
    ap (λ q. q >>= after_tuple) read ∙ ap (λ q. q >>= done) ((where_agrees us at).1 o)

body_opens : {ws : List Word} {at : Span} → OpensStructBody ws at → struct_body_at within_levels ws ≡ Err (deep at)
unfolding other_body_at struct_body_at tuple_body_at
body_opens (in_first_clause {at = at} {ws = ws} o) = complete.other_first within_levels ws (where_first o) ∙ ap (λ q. q >>= braced) ((where_agrees ws at).1 o)
body_opens (in_braced {inside = inside} {s = s} {ws = ws} {rest = rest} w passes o) =
    let read = passed_reads where_agrees ws (group Curly inside s ∷ rest) (reaches (where_complete within_levels sound anywhere found w refl)) passes in
    complete.other_first within_levels ws (braces_first w) ∙ ap (λ q. q >>= braced) read ∙ fields_open o
body_opens (in_tuple o) = ap (λ q. q >>= after_tuple) (fields_open o)
body_opens (in_last_clause f passes o) = tuple_opens f passes o

-- the body of an enum
enum_body_deep : (ws : List Word) (at : Span) → enum_body_at within_levels ws ≡ Err (deep at) → OpensEnumBody ws at
unfolding enum_body_at
enum_body_deep ws at e =
    elim (bind_err (after_where within_levels ws) e) [
      | inl w ↦ in_enum_clause ((where_agrees ws at).0 w)
      | inr w ↦
          let g = past (as_group Curly) w.0 _ at w.2 in
          let clause = subst (λ v. IsWhere ws v) (group-is Curly w.0 g.0 g.1) (where_sound within_levels sound ws w.0 w.1) in
          in_variants clause (read_passes where_agrees ws w.0 w.1) ((list_variants (words_of g.0.0.0) at).0 (handed_on (list_of (variant_at ty) (words_of g.0.0.0)) _ at g.2))
    ]

enum_body_opens : {ws : List Word} {at : Span} → OpensEnumBody ws at → enum_body_at within_levels ws ≡ Err (deep at)
unfolding enum_body_at
enum_body_opens (in_enum_clause {at = at} {ws = ws} o) = ap (λ q. q >>= in_enum_braces within_levels) ((where_agrees ws at).1 o)
enum_body_opens (in_variants {inside = inside} {s = s} {at = at} {ws = ws} {rest = rest} w passes o) =
    let done : List VariantItem → Read (List VariantItem) = λ vs. Ok (vs, rest) in
    let clause = passed_reads where_agrees ws (group Curly inside s ∷ rest) (reaches (where_complete within_levels sound anywhere found w refl)) passes in
    ap (λ q. q >>= in_enum_braces within_levels) clause ∙ ap (λ q. q >>= done) ((list_variants (words_of inside) at).1 o)

-- what reads on after a keyword and a name
past_head : {A : Type 0} (k : Keyword) (us : List Word) (f : Ident × List Word → Result A Fault) (at : Span) → (keyword_at k us >>= λ s. name_at s.1 >>= f) ≡ Err (deep at)
    → (x : Ident) × (p : Ident × List Word) × (us ≡ keyword k x ∷ name p.0 ∷ p.1) × (f p ≡ Err (deep at))
past_head k us f at e =
    let s = past (as_keyword k) us _ at e in
    let x = past as_name s.0.1 f at s.2 in
    let word = keyword-is k us s.0 s.1 in
    (word.0, x.0, word.1 ∙ ap (λ v. keyword k word.0 ∷ v) (name-is s.0.1 x.0 x.1), x.2)

module _ (ws start us : List Word) (attrs : List AttributeItem) (ds : IsAttributes ws attrs start) (v : IsVisibility start us) (at : Span) where
  struct_deep : struct_at within_levels us ≡ Err (deep at) → OpensStruct ws at
  unfolding struct_at
  struct_deep e =
      let h = past_head Struct us _ at e in
      let starts = subst (IsVisibility start) h.2 v in
      elim (bind_err (generics_at within_levels h.1.1) h.3) [
        | inl g ↦ in_struct_generics ds starts ((generics_agree h.1.1 at).0 g)
        | inr g ↦ in_struct_body ds starts (generics_sound within_levels sound h.1.1 g.0.0 g.0.1 g.1) (read_passes generics_agree h.1.1 g.0 g.1) (body_deep g.0.1 at (handed_on (struct_body_at within_levels g.0.1) _ at g.2))
      ]

  enum_deep : enum_at within_levels us ≡ Err (deep at) → OpensEnum ws at
  unfolding enum_at
  enum_deep e =
      let h = past_head Enum us _ at e in
      let starts = subst (IsVisibility start) h.2 v in
      elim (bind_err (generics_at within_levels h.1.1) h.3) [
        | inl g ↦ in_enum_generics ds starts ((generics_agree h.1.1 at).0 g)
        | inr g ↦ in_enum_body ds starts (generics_sound within_levels sound h.1.1 g.0.0 g.0.1 g.1) (read_passes generics_agree h.1.1 g.0 g.1) (enum_body_deep g.0.1 at (handed_on (enum_body_at within_levels g.0.1) _ at g.2))
      ]

  declaration_from_deep : (q : Read Span) → struct_or_enum within_levels us q ≡ Err (deep at) → OpensDeclaration ws at
  declaration_from_deep (Ok k) e = in_struct (struct_deep e)
  declaration_from_deep (Err f) e = in_enum (enum_deep e)

  declaration_deep : declaration_at within_levels us ≡ Err (deep at) → OpensDeclaration ws at
  unfolding declaration_at
  declaration_deep e = declaration_from_deep (keyword_at Struct us) e

left_shallow : (r : Option (List Word)) (at : Span) → left_by r ≡ Err (deep at) → ⊥
left_shallow None at e = cc
left_shallow (Some rest) at e = cc

item_from_deep : (ws start us : List Word) (attrs : List AttributeItem) (at : Span) (r : Read Span) → IsAttributes ws attrs start → IsVisibility start us → use_or_declaration within_levels attrs start us r ≡ Err (deep at) → OpensDeclaration ws at
item_from_deep ws start us attrs at (Ok u) ds v e = absurd (left_shallow (after_semicolon u.1) at e)
item_from_deep ws start us attrs at (Err f) ds v e = declaration_deep ws start us attrs ds v at (handed_on (declaration_at within_levels us) _ at e)

item_deep : (ws : List Word) (at : Span) → item_at within_levels ws ≡ Err (deep at) → OpensDeclaration ws at
unfolding item_at
item_deep ws at e = let d = past_attributes ws _ at e in let us = after_visibility false d.0.1 in item_from_deep ws d.0.1 us d.0.0 at (keyword_at Use us) (attributes_sound ws d.0.0 d.0.1 d.1) (visibility_sound false d.0.1) d.2

-- where the generics and what follows them read so, what is read on them stops
generics_reach : {gs vs : List Word} {ps : List ParameterItem} → IsGenerics gs ps vs → Passes OpensGenerics gs → sign_at Less vs ≡ Err wrong → generics_at within_levels gs ≡ Ok (ps, vs)
generics_reach {gs = gs} {vs = vs} {ps = ps} g passes none = passed_reads generics_agree gs (ps, vs) (reaches (generics_complete within_levels sound anywhere found g none)) passes

where_no_less : {ws : List Word} {at : Span} → OpensWhere ws at → sign_at Less ws ≡ Err wrong
where_no_less (in_predicates o) = refl

body_no_less : {ws : List Word} {at : Span} → OpensStructBody ws at → sign_at Less ws ≡ Err wrong
body_no_less (in_first_clause o) = where_no_less o
body_no_less (in_braced w passes o) = complete.where_no_less w refl
body_no_less (in_tuple o) = refl
body_no_less (in_last_clause f passes o) = complete.fields_no_less f

variants_no_less : {ws : List Word} {at : Span} → OpensEnumBody ws at → sign_at Less ws ≡ Err wrong
variants_no_less (in_enum_clause o) = where_no_less o
variants_no_less (in_variants w passes o) = complete.where_no_less w refl

struct_opens : {ws : List Word} {at : Span} → OpensStruct ws at → item_at within_levels ws ≡ Err (deep at)
struct_opens (in_struct_generics {y = y} {at = at} {attrs = attrs} {us = us} {gs = gs} d v o) = struct_head within_levels d v ∙ ap (λ q. q >>= struct_end within_levels y >>= item_end attrs us) ((generics_agree gs at).1 o)
struct_opens (in_struct_body {y = y} {attrs = attrs} {ps = ps} {us = us} d v g passes o) =
    let done : FieldItems × List Word → Read HeadItem = λ fs. Ok (head_of y ps (struct_body fs.0), fs.1) in
    struct_head within_levels d v ∙ ap (λ q. q >>= struct_end within_levels y >>= item_end attrs us) (generics_reach g passes (body_no_less o)) ∙ ap (λ q. q >>= done >>= item_end attrs us) (body_opens o)

enum_opens : {ws : List Word} {at : Span} → OpensEnum ws at → item_at within_levels ws ≡ Err (deep at)
enum_opens (in_enum_generics {y = y} {at = at} {attrs = attrs} {us = us} {gs = gs} d v o) = enum_head within_levels d v ∙ ap (λ q. q >>= enum_end within_levels y >>= item_end attrs us) ((generics_agree gs at).1 o)
enum_opens (in_enum_body {y = y} {attrs = attrs} {ps = ps} {us = us} d v g passes o) =
    let done : List VariantItem × List Word → Read HeadItem = λ vs. Ok (head_of y ps (enum_body vs.0), vs.1) in
    enum_head within_levels d v ∙ ap (λ q. q >>= enum_end within_levels y >>= item_end attrs us) (generics_reach g passes (variants_no_less o)) ∙ ap (λ q. q >>= done >>= item_end attrs us) (enum_body_opens o)

declaration_opens : {ws : List Word} {at : Span} → OpensDeclaration ws at → item_at within_levels ws ≡ Err (deep at)
declaration_opens (in_struct o) = struct_opens o
declaration_opens (in_enum o) = enum_opens o

item_agrees : Agrees (item_at within_levels) OpensDeclaration
item_agrees ws at = (λ e. item_deep ws at e, λ o. declaration_opens o)

-- ---- items
behind_item : (ws rest : List Word) (o : Option DeclaredItem) (at : Span) → item_at within_levels ws ≡ Ok (o, rest) → ItemRead ws o rest → OpensItems rest at → OpensItems ws at
behind_item ws rest None at e r h = behind_use r h
behind_item ws rest (Some d) at e r h = behind_declaration r (read_passes item_agrees ws (Some d, rest) e) h

items_within : (n : ℕ) (ws : List Word) (at : Span) → many_at kept (item_at within_levels) n ws ≡ Err (deep at) → OpensItems ws at
unfolding many_at
items_within zero ws at e = cc
items_within (suc n) [] at e = cc
items_within (suc n) (w ∷ ws) at e = elim (bind_err (item_at within_levels (w ∷ ws)) e) [
  | inl h ↦ in_declaration (item_deep (w ∷ ws) at h)
  | inr h ↦ behind_item (w ∷ ws) h.0.1 h.0.0 at h.1 (items.item_sound within_levels sound (w ∷ ws) h.0.0 h.0.1 h.1)
      (items_within n h.0.1 at (handed_on (many_at kept (item_at within_levels) n h.0.1) (λ xs. kept h.0.0 ++ xs) at h.2))
]

declaration_some : {ws : List Word} {at : Span} → OpensDeclaration ws at → 0 < length ws
declaration_some (in_struct (in_struct_generics d v o)) = omega (arith, attributes_no_longer d, visibility_no_longer v)
declaration_some (in_struct (in_struct_body d v g passes o)) = omega (arith, attributes_no_longer d, visibility_no_longer v)
declaration_some (in_enum (in_enum_generics d v o)) = omega (arith, attributes_no_longer d, visibility_no_longer v)
declaration_some (in_enum (in_enum_body d v g passes o)) = omega (arith, attributes_no_longer d, visibility_no_longer v)

items_open : {ws : List Word} {at : Span} → OpensItems ws at → items_at within_levels ws ≡ Err (deep at)
items_open (in_declaration {at = at} {ws = ws} o) = there (items_at within_levels ws) at (first_deep (only at) kept (item_at within_levels) (item_shortens within_levels sound) ws (declaration_some o) (told (item_at within_levels ws) at (declaration_opens o)))
items_open (behind_use {at = at} {ws = ws} {rest = rest} r o) =
    there (items_at within_levels ws) at (more_deep (only at) kept (item_at within_levels) (item_shortens within_levels sound) ws rest None (use_shorter r) (inl (use_head within_levels r)) (told (items_at within_levels rest) at (items_open o)))
items_open (behind_declaration {at = at} {ws = ws} {rest = rest} {d = d} r passes o) =
    let read = passed_reads item_agrees ws (Some d, rest) (reaches (complete.declaration_complete within_levels sound anywhere found r)) passes in
    there (items_at within_levels ws) at (more_deep (only at) kept (item_at within_levels) (item_shortens within_levels sound) ws rest (Some d) (declaration_shorter r) (inl read) (told (items_at within_levels rest) at (items_open o)))

opens_no_inner : {ws : List Word} {at : Span} → OpensItems ws at → NoInner ws
opens_no_inner (in_declaration (in_struct (in_struct_generics d v o))) = attributes_no_inner d (visibility_no_inner v refl)
opens_no_inner (in_declaration (in_struct (in_struct_body d v g passes o))) = attributes_no_inner d (visibility_no_inner v refl)
opens_no_inner (in_declaration (in_enum (in_enum_generics d v o))) = attributes_no_inner d (visibility_no_inner v refl)
opens_no_inner (in_declaration (in_enum (in_enum_body d v g passes o))) = attributes_no_inner d (visibility_no_inner v refl)
opens_no_inner (behind_use (use_line d v e) o) = attributes_no_inner d (visibility_no_inner v refl)
opens_no_inner (behind_declaration r passes o) = declaration_no_inner r

-- ---- a source
inner_doc_from : (w : Word) (ws : List Word) (at : Span) → is_inner_doc w ≡ true → OpensSource ws at → OpensSource (w ∷ ws) at
inner_doc_from (name x) ws at e r = cc
inner_doc_from (underscore x) ws at e r = cc
inner_doc_from (keyword k x) ws at e r = cc
inner_doc_from (sign k s) ws at e r = cc
inner_doc_from (lifetime x) ws at e r = cc
inner_doc_from (literal t) ws at e r = cc
inner_doc_from (doc t) ws at e r = behind_inner_doc e r
inner_doc_from (group b ts s) ws at e r = cc

inner_attribute_from : (ws us : List Word) (at : Span) → after_inner_attribute ws ≡ Ok us → OpensSource us at → OpensSource ws at
inner_attribute_from ws us at e r =
    let h = bind_ok (sign_at Hash ws) e in
    let x = bind_ok (sign_at Exclamation h.0.1) h.2 in
    let g = bind_ok (group_at Square x.0.1) x.2 in
    let same : g.0.1 ≡ us = ok_is g.2 in
    let is : ws ≡ sign Hash h.0.0 ∷ sign Exclamation x.0.0 ∷ group Square g.0.0.0 g.0.0.1 ∷ us =
    sign-is Hash ws h.0 h.1 ∙ ap (λ v. sign Hash h.0.0 ∷ v) (sign-is Exclamation h.0.1 x.0 x.1 ∙ ap (λ v. sign Exclamation x.0.0 ∷ v) (group-is Square x.0.1 g.0 g.1 ∙ ap (λ v. group Square g.0.0.0 g.0.0.1 ∷ v) same)) in
    subst (λ v. OpensSource v at) (sym is) (behind_inner_attribute r)

inner_step_from : (w : Word) (ws us : List Word) (at : Span) (b : Bool) → is_inner_doc w ≡ b → cond b (Ok ws) (after_inner_attribute (w ∷ ws)) ≡ Ok us → OpensSource us at → OpensSource (w ∷ ws) at
inner_step_from w ws us at true is e r = inner_doc_from w ws at is (subst (λ v. OpensSource v at) (sym (ok_is e)) r)
inner_step_from w ws us at false is e r = inner_attribute_from (w ∷ ws) us at e r

inner_step_opens : (ws us : List Word) (at : Span) → inner_at ws ≡ Ok us → OpensSource us at → OpensSource ws at
inner_step_opens [] us at e r = cc
inner_step_opens (w ∷ ws) us at e r = inner_step_from w ws us at (is_inner_doc w) refl e r

inner_from_opens : (again : List Word → List Word) (ws : List Word) (at : Span) (r : Result (List Word) Fault) → inner_at ws ≡ r → ((us : List Word) → OpensSource (again us) at → OpensSource us at)
    → OpensSource (inner_from again ws r) at → OpensSource ws at
inner_from_opens again ws at (Err e) is others h = h
inner_from_opens again ws at (Ok us) is others h = inner_step_opens ws us at is (others us h)

inner_within_opens : (n : ℕ) (ws : List Word) (at : Span) → OpensSource (after_inner_within n ws) at → OpensSource ws at
unfolding after_inner_within
inner_within_opens zero ws at h = h
inner_within_opens (suc n) ws at h = inner_from_opens (after_inner_within n) ws at (inner_at ws) refl (λ us r. inner_within_opens n us at r) h

source_deep : (ws : List Word) (at : Span) → source_at within_levels ws ≡ Err (deep at) → OpensSource ws at
unfolding source_at many_of after_inner
source_deep ws at e = inner_within_opens (length ws) ws at (in_items (items_within _ (after_inner_within (length ws) ws) at e))

source_opens : {ws : List Word} {at : Span} → OpensSource ws at → source_at within_levels ws ≡ Err (deep at)
unfolding source_at
source_opens (behind_inner_doc {t = t} {ws = ws} e r) = ap (items_at within_levels) (inner_step (doc t ∷ ws) ws (inner_doc_at t ws e)) ∙ source_opens r
source_opens (behind_inner_attribute {h = h} {e = e} {s = s} {inside = inside} {ws = ws} r) = ap (items_at within_levels) (inner_step (sign Hash h ∷ sign Exclamation e ∷ group Square inside s ∷ ws) ws refl) ∙ source_opens r
source_opens (in_items {ws = ws} r) = ap (items_at within_levels) (inner_stop ws (opens_no_inner r)) ∙ items_open r

pub source_agrees : Agrees (source_at within_levels) OpensSource
source_agrees ws at = (λ e. source_deep ws at e, λ o. source_opens o)
