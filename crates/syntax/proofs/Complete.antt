-- What is in the grammar is read, unless something nests too deep, where ty reads types, and readers types and bounds.
use Rattle.std.proofs.Common.{◌≡◌, ◌∙◌, inl, inr, List, [], ◌∷◌, refl, ap, sym, subst, Bool, true, false, not, ◌&&◌, cond, Option, Some, None, Ok, Err}
use Rattle.std.proofs.lemmas.Bool.{cases_Bool}
use Rattle.texts.specs.declared.span.Span.{Span}
use Rattle.tokens.specs.declared.token.Bracket.TheVariants.{Round, Square, Curly}
use Rattle.tokens.specs.declared.token.Token.{Token}
use Rattle.tokens.specs.Trees.{Trees}
use Rattle.written_types.specs.declared.written.Ident.{Ident}
use Rattle.written_types.specs.Written.{Written}
use Rattle.words.specs.declared.vocabulary.Keyword.{Keyword}
use Rattle.words.specs.declared.vocabulary.Keyword.TheVariants as keywords
use Rattle.words.specs.declared.vocabulary.Keyword.TheVariants.{Pub, Struct, Enum, Use}
use Rattle.words.specs.declared.vocabulary.Sign.{Sign}
use Rattle.words.specs.declared.vocabulary.Sign.TheVariants as signs
use Rattle.words.specs.declared.vocabulary.Sign.TheVariants.{Colon, Comma, Semicolon, Less, Hash, Exclamation}
use Rattle.words.specs.Words.{Word, name, underscore, keyword, sign, lifetime, literal, doc, group, words_of}
use Rattle.words.specs.Reading.{wrong, Read, ◌>>=◌, as_keyword, name_at, keyword_at, sign_at, group_at}
use Rattle.type_grammar.specs.Starts.{Stops, begins_type}
use Rattle.type_grammar.specs.Grammar.{IsType}
use Rattle.words.specs.Lists.{IsList, list_of}
use Rattle.attributes.specs.Attributes.{AttributeItem}
use Rattle.attributes.specs.AttributeWords.{is_inner_text}
use Rattle.attributes.specs.AttributeGrammar.{IsAttributes}
use Rattle.attributes.specs.AttributeReading.{begins_attribute}
use Rattle.attributes.proofs.Laws.{attributes_complete}
use Rattle.syntax.specs.Items.{FieldItem, FieldItems, named, unnamed, unit, VariantItem, ParameterItem, struct_body, enum_body, HeadItem, DeclaredItem}
use Rattle.words.specs.Visibility.{is_restriction}
use Rattle.syntax.specs.ItemWords.{is_comma, before_comma, from_comma}
use Rattle.syntax.specs.ItemGrammar.{IsVisibility, private, public, restricted, IsNamedField, named_field, IsUnnamedField, unnamed_field, IsFields, named_fields, unnamed_fields, no_fields, IsStructBody, in_braces, in_parentheses, fieldless, IsDiscriminant, no_discriminant, discriminant, IsVariant, variant_item, IsUse, use_line, IsStruct, struct_item, IsEnumBody, variants_in_braces, IsEnum, enum_item, IsDeclaration, structure, enumeration, IsItems, nothing, used, declared, IsSource, inner_doc, inner_attribute, items}
use Rattle.syntax.specs.Generics.{IsWhere, no_where, where_clause}
use Rattle.syntax.specs.GenericReading.{Readers, generics_at, after_where}
use Rattle.syntax.specs.ItemReading.{is_scope, ends_item, after_visibility, field_of, named_field_at, unnamed_field_at, fields_at, without_fields, begins_group, tuple_body_at, other_body_at, struct_body_at, discriminant_at, variant_of, variant_at, head_of, declared_of, struct_at, enum_body_at, enum_at, declaration_at, left_by, use_or_declaration, item_at, kept, inner_at, items_at, source_at}
use Rattle.syntax.proofs.Fronts.{NoAttribute, scope-is, visibility_no_attribute, pub_left, scope_left, scope_passed, visibility_complete, NoInner, attributes_no_inner, visibility_no_inner}
use Rattle.syntax.proofs.Types.{Begins, type_begins, group_alone}
use Rattle.type_grammar.specs.Reading.{ends_clause}
use Rattle.syntax.proofs.SoundGenerics.{AreSound}
use Rattle.syntax.proofs.CompleteGenerics.{AreComplete, generics_complete, where_complete}
use Rattle.syntax.proofs.Inner.{inner_step, inner_stop}
use Rattle.words.proofs.Laws.{many_none, Ends, at_end, at_comma, Finds, like_finds, then_finds, more_finds, list_complete}
use Rattle.syntax.proofs.Sound.{named_shorter, unnamed_shorter, variant_shorter, use_shorter, declaration_shorter, named_shortens, unnamed_shortens, variant_shortens, item_shortens}

-- ---- what a type begins with, and what ends an item of a list
no_type_keyword : (k : Keyword) (x : Ident) → begins_type (keyword k x) ≡ true → as_keyword Pub (keyword k x) ≡ None
no_type_keyword keywords.Pub x e = cc
no_type_keyword _ x e = refl

begins_no_pub : (w : Word) → begins_type w ≡ true → as_keyword Pub w ≡ None
begins_no_pub (name x) e = refl
begins_no_pub (underscore x) e = refl
begins_no_pub (keyword k x) e = no_type_keyword k x e
begins_no_pub (sign k s) e = refl
begins_no_pub (lifetime x) e = refl
begins_no_pub (literal t) e = refl
begins_no_pub (doc t) e = refl
begins_no_pub (group b ts s) e = refl

no_type_sign : (k : Sign) (s : Span) → begins_type (sign k s) ≡ true → is_comma (sign k s) ≡ false
no_type_sign signs.Comma s e = cc
no_type_sign _ s e = refl

begins_no_comma : (w : Word) → begins_type w ≡ true → is_comma w ≡ false
begins_no_comma (name x) e = refl
begins_no_comma (underscore x) e = refl
begins_no_comma (keyword k x) e = refl
begins_no_comma (sign k s) e = no_type_sign k s e
begins_no_comma (lifetime x) e = refl
begins_no_comma (literal t) e = refl
begins_no_comma (doc t) e = refl
begins_no_comma (group b ts s) e = refl

no_hash_sign : (k : Sign) (s : Span) → begins_type (sign k s) ≡ true → begins_attribute (sign k s) ≡ false
no_hash_sign signs.Hash s e = cc
no_hash_sign _ s e = refl

begins_no_attribute : (w : Word) → begins_type w ≡ true → begins_attribute w ≡ false
begins_no_attribute (name x) e = refl
begins_no_attribute (underscore x) e = refl
begins_no_attribute (keyword k x) e = refl
begins_no_attribute (sign k s) e = no_hash_sign k s e
begins_no_attribute (lifetime x) e = refl
begins_no_attribute (literal t) e = refl
begins_no_attribute (doc t) e = cc
begins_no_attribute (group b ts s) e = refl

ends_stop : {ws : List Word} → Ends ws → Stops ws
ends_stop at_end = refl
ends_stop at_comma = refl

ends_end : {ws : List Word} → Ends ws → ends_item ws ≡ true
ends_end at_end = refl
ends_end at_comma = refl

-- ---- a visibility before a type
-- what begins with a type, and is passed over no further than to it: a group behind `pub` is the type where an item ends behind it
pub type_visibility : {us vs : List Word} → IsVisibility us vs → Begins vs → ((g : Trees) (s : Span) (more : List Word) → vs ≡ group Round g s ∷ more → is_restriction (words_of g) ≡ true → ends_item more ≡ true) → after_visibility true us ≡ vs
type_visibility (private {rest = rest}) b ends = subst (λ v. after_visibility true v ≡ v) (sym b.2) (pub_left true b.0 b.1 (begins_no_pub b.0 b.3))
type_visibility (public {x = x} {rest = rest}) b ends = subst (λ v. after_visibility true (keyword Pub x ∷ v) ≡ v) (sym b.2) (scope_left x true b.0 b.1 (elim (cases_Bool (is_scope b.0)) [
  | inl yes_scope ↦ let h = scope-is b.0 yes_scope in
      let end : ends_item b.1 ≡ true = ends h.0 h.1 b.1 (b.2 ∙ ap (λ v. v ∷ b.1) h.2) h.3 in
      ap (λ v. v && not (true && ends_item b.1)) yes_scope ∙ ap (λ v. not v) end
  | inr no_scope ↦ ap (λ v. v && not (true && ends_item b.1)) no_scope
]))
type_visibility (restricted {x = x} {inside = inside} {s = s} {rest = rest} h) b ends =
    let goes : ends_item rest ≡ false = ap ends_item b.2 ∙ begins_no_comma b.0 b.3 in
    scope_passed x true (group Round inside s) rest (ap (λ v. v && not (true && ends_item rest)) h ∙ ap (λ v. not v) goes)

pub begins_type_alone : (ws : List Word) → Begins ws → NoAttribute ws
begins_type_alone ws b = subst (λ v. NoAttribute v) (sym b.2) (begins_no_attribute b.0 b.3)

-- ---- what ends fields, a discriminant and a struct
abbrev any_group : List Word → Bool
any_group (group b inside s ∷ ws) = true
any_group _ = false

-- behind a name without fields stands no group
abbrev EndsFields : FieldItems → List Word → Type 0
EndsFields (named fs) ws = Unit {0}
EndsFields (unnamed fs) ws = Unit {0}
EndsFields unit ws = any_group ws ≡ false

no_group : (fs : FieldItems) (ws : List Word) → any_group ws ≡ false → EndsFields fs ws
no_group (named fs) ws e = tt
no_group (unnamed fs) ws e = tt
no_group unit ws e = e

discriminant_no_group : {ws rest : List Word} {o : Option (List Word)} → IsDiscriminant ws o rest → Ends rest → any_group ws ≡ false
discriminant_no_group no_discriminant at_end = refl
discriminant_no_group no_discriminant at_comma = refl
discriminant_no_group (discriminant e) ends = refl

discriminant_complete : {ws rest : List Word} {o : Option (List Word)} → IsDiscriminant ws o rest → Ends rest → discriminant_at ws ≡ Ok (o, rest)
unfolding discriminant_at
discriminant_complete no_discriminant at_end = refl
discriminant_complete no_discriminant at_comma = refl
discriminant_complete (discriminant {ws = ws} e) ends = ap (λ b. cond {A = Read (Option (List Word))} b (Err wrong) (Ok (Some (before_comma ws), from_comma ws))) e

-- a struct's body and a where clause begin with no `<`
pub where_no_less : {ws rest : List Word} → IsWhere ws rest → sign_at Less rest ≡ Err wrong → sign_at Less ws ≡ Err wrong
where_no_less no_where e = e
where_no_less (where_clause l) e = refl

pub fields_no_less : {ws us : List Word} {fs : List FieldItem} → IsFields ws (unnamed fs) us → sign_at Less ws ≡ Err wrong
fields_no_less (unnamed_fields r) = refl

braces_no_less : {ws us : List Word} {fs : List FieldItem} → IsFields ws (named fs) us → sign_at Less ws ≡ Err wrong
braces_no_less (named_fields r) = refl

pub body_no_less : {ws rest : List Word} {fs : FieldItems} → IsStructBody ws fs rest → sign_at Less ws ≡ Err wrong
body_no_less (in_braces w f) = where_no_less w (braces_no_less f)
body_no_less (in_parentheses f w) = fields_no_less f
body_no_less (fieldless w) = where_no_less w refl

pub variants_no_less : {ws rest : List Word} {vs : List VariantItem} → IsEnumBody ws vs rest → sign_at Less ws ≡ Err wrong
variants_no_less (variants_in_braces w l) = where_no_less w refl

-- ---- items have no inner attrs and attributes at their front
pub inner_doc_at : (t : Token) (ws : List Word) → is_inner_text t.text ≡ true → inner_at (doc t ∷ ws) ≡ Ok ws
inner_doc_at t ws e = ap (λ b. cond b (Ok ws) (Err wrong)) e

pub declaration_no_inner : {ws rest : List Word} {d : DeclaredItem} → IsDeclaration ws d rest → NoInner ws
declaration_no_inner (structure (struct_item d v g b)) = attributes_no_inner d (visibility_no_inner v refl)
declaration_no_inner (enumeration (enum_item d v g b)) = attributes_no_inner d (visibility_no_inner v refl)

items_no_inner : {ws : List Word} {ds : List DeclaredItem} → IsItems ws ds → NoInner ws
items_no_inner nothing = refl
items_no_inner (used (use_line d v e) h) = attributes_no_inner d (visibility_no_inner v refl)
items_no_inner (declared r h) = declaration_no_inner r

-- ---- heads of readers
abbrev named_tail : (List Word → Read Written) → List AttributeItem → Ident → List Word → List Word → Read FieldItem
named_tail ty attrs x us vs = ty vs >>= λ t. Ok (field_of attrs (Some x) us t)

abbrev unnamed_tail : (List Word → Read Written) → List AttributeItem → List Word → List Word → Read FieldItem
unnamed_tail ty attrs us vs = ty vs >>= λ t. Ok (field_of attrs None us t)

abbrev pub variant_end : List AttributeItem → Ident → List Word → FieldItems × List Word → Read VariantItem
variant_end attrs x us fs = discriminant_at fs.1 >>= λ value. Ok (variant_of attrs x us fs.0 value)

abbrev variant_tail : (List Word → Read Written) → List AttributeItem → Ident → List Word → List Word → Read VariantItem
variant_tail ty attrs x us vs = fields_at ty vs >>= variant_end attrs x us

abbrev pub struct_end : Readers → Ident → List ParameterItem × List Word → Read HeadItem
struct_end r y ps = struct_body_at r ps.1 >>= λ fs. Ok (head_of y ps.0 (struct_body fs.0), fs.1)

abbrev pub enum_end : Readers → Ident → List ParameterItem × List Word → Read HeadItem
enum_end r y ps = enum_body_at r ps.1 >>= λ vs. Ok (head_of y ps.0 (enum_body vs.0), vs.1)

abbrev pub in_enum_braces : Readers → List Word → Read (List VariantItem)
in_enum_braces r us = group_at Curly us >>= λ g. list_of (variant_at r.ty) (words_of g.0.0) >>= λ vs. Ok (vs, g.1)

abbrev pub item_end : List AttributeItem → List Word → HeadItem × List Word → Read (Option DeclaredItem)
item_end attrs us d = Ok (Some (declared_of attrs us d), d.1)

module _ (ty : List Word → Read Written) where
  abbrev named_from : List AttributeItem → List Word → List Word → Read FieldItem
  named_from attrs us vs = name_at vs >>= λ x. sign_at Colon x.1 >>= λ c. ty c.1 >>= λ t. Ok (field_of attrs (Some x.0) us t)

  pub named_head : {ws us vs : List Word} {attrs : List AttributeItem} {x : Ident} {s : Span} → IsAttributes ws attrs us → IsVisibility us (name x ∷ sign Colon s ∷ vs) → named_field_at ty ws ≡ named_tail ty attrs x us vs
  unfolding named_field_at
  named_head {us = us} {vs = vs} {attrs = attrs} {x = x} {s = s} d v =
      ap (λ (r : Read (List AttributeItem)). r >>= λ p. named_from p.0 p.1 (after_visibility false p.1)) (attributes_complete d (visibility_no_attribute v refl))
      ∙ ap (named_from attrs us) (visibility_complete (name x) (sign Colon s ∷ vs) v refl refl refl)

  pub unnamed_head : {ws us vs : List Word} {attrs : List AttributeItem} → IsAttributes ws attrs us → IsVisibility us vs → NoAttribute vs → after_visibility true us ≡ vs → unnamed_field_at ty ws ≡ unnamed_tail ty attrs us vs
  unfolding unnamed_field_at
  unnamed_head {us = us} {attrs = attrs} d v n e =
      ap (λ (r : Read (List AttributeItem)). r >>= λ p. unnamed_tail ty p.0 p.1 (after_visibility true p.1)) (attributes_complete d (visibility_no_attribute v n)) ∙ ap (unnamed_tail ty attrs us) e

  abbrev variant_from : List AttributeItem → List Word → Read VariantItem
  variant_from attrs us = name_at us >>= λ x. variant_tail ty attrs x.0 us x.1

  pub variant_head : {ws vs : List Word} {attrs : List AttributeItem} {x : Ident} → IsAttributes ws attrs (name x ∷ vs) → variant_at ty ws ≡ variant_tail ty attrs x (name x ∷ vs) vs
  unfolding variant_at
  variant_head d = ap (λ (r : Read (List AttributeItem)). r >>= λ p. variant_from p.0 p.1) (attributes_complete d refl)

  unit_complete : (ws : List Word) → any_group ws ≡ false → fields_at ty ws ≡ Ok (unit, ws)
  unfolding fields_at
  unit_complete [] e = refl
  unit_complete (name x ∷ ws) e = refl
  unit_complete (underscore x ∷ ws) e = refl
  unit_complete (keyword k x ∷ ws) e = refl
  unit_complete (sign k s ∷ ws) e = refl
  unit_complete (lifetime x ∷ ws) e = refl
  unit_complete (literal t ∷ ws) e = refl
  unit_complete (doc t ∷ ws) e = refl
  unit_complete (group b inside s ∷ ws) e = cc

  module _ (sound : (ws : List Word) (t : Written) (rest : List Word) → ty ws ≡ Ok (t, rest) → IsType ws t rest) (D : Span → Type 0) (type_found : (ws rest : List Word) (t : Written) → IsType ws t rest → Stops rest → Finds D (ty ws) (t, rest)) where
    -- ---- fields
    pub named_complete : (ws rest : List Word) (f : FieldItem) → IsNamedField ws f rest → Ends rest → Finds D (named_field_at ty ws) (f, rest)
    named_complete _ rest _ (named_field {x = x} {t = t} {attrs = attrs} {us = us} {vs = vs} d v r) ends =
        let f : Written × List Word → Read FieldItem = λ t. Ok (field_of attrs (Some x) us t) in
        like_finds D (named_head d v) (then_finds D (ty vs) f (t, rest) (field_of attrs (Some x) us (t, rest)) (type_found vs rest t r (ends_stop ends)) (inl refl))

    pub unnamed_complete : (ws rest : List Word) (f : FieldItem) → IsUnnamedField ws f rest → Ends rest → Finds D (unnamed_field_at ty ws) (f, rest)
    unnamed_complete _ rest _ (unnamed_field {t = t} {attrs = attrs} {us = us} {vs = vs} d v r) ends =
        let f : Written × List Word → Read FieldItem = λ t. Ok (field_of attrs None us t) in
        let b = type_begins r in
        let passed = type_visibility v b (λ g s more is h. ap ends_item (sym (group_alone r is)) ∙ ends_end ends) in
        like_finds D (unnamed_head d v (begins_type_alone vs b) passed) (then_finds D (ty vs) f (t, rest) (field_of attrs None us (t, rest)) (type_found vs rest t r (ends_stop ends)) (inl refl))

    list_named : {ws : List Word} {fs : List FieldItem} → IsList IsNamedField ws fs → Finds D (list_of (named_field_at ty) ws) fs
    list_named r = list_complete D (named_field_at ty) IsNamedField (named_shortens ty sound) (λ ws rest x r. named_shorter r) named_complete r

    list_unnamed : {ws : List Word} {fs : List FieldItem} → IsList IsUnnamedField ws fs → Finds D (list_of (unnamed_field_at ty) ws) fs
    list_unnamed r = list_complete D (unnamed_field_at ty) IsUnnamedField (unnamed_shortens ty sound) (λ ws rest x r. unnamed_shorter r) unnamed_complete r

    pub fields_complete : {ws rest : List Word} {fs : FieldItems} → IsFields ws fs rest → EndsFields fs rest → Finds D (fields_at ty ws) (fs, rest)
    unfolding fields_at
    fields_complete (named_fields {inside = inside} {rest = rest} {fs = fs} r) ends =
        let f : List FieldItem → Read FieldItems = λ fs. Ok (named fs, rest) in
        then_finds D (list_of (named_field_at ty) (words_of inside)) f fs (named fs, rest) (list_named r) (inl refl)
    fields_complete (unnamed_fields {inside = inside} {rest = rest} {fs = fs} r) ends =
        let f : List FieldItem → Read FieldItems = λ fs. Ok (unnamed fs, rest) in
        then_finds D (list_of (unnamed_field_at ty) (words_of inside)) f fs (unnamed fs, rest) (list_unnamed r) (inl refl)
    fields_complete (no_fields {rest = rest}) ends = inl (unit_complete rest ends)

    -- ---- declarations
    pub variant_complete : (ws rest : List Word) (v : VariantItem) → IsVariant ws v rest → Ends rest → Finds D (variant_at ty ws) (v, rest)
    variant_complete _ rest _ (variant_item {x = x} {attrs = attrs} {fs = fs} {value = value} {vs = vs} {mid = mid} d f o) ends =
        let done : Option (List Word) × List Word → Read VariantItem = λ v. Ok (variant_of attrs x (name x ∷ vs) fs v) in
        like_finds D (variant_head d) (then_finds D (fields_at ty vs) (variant_end attrs x (name x ∷ vs)) (fs, mid) (variant_of attrs x (name x ∷ vs) fs (value, rest))
        (fields_complete f (no_group fs mid (discriminant_no_group o ends))) (inl (ap (λ r. r >>= done) (discriminant_complete o ends))))

    pub list_variants : {ws : List Word} {vs : List VariantItem} → IsList IsVariant ws vs → Finds D (list_of (variant_at ty) ws) vs
    list_variants r = list_complete D (variant_at ty) IsVariant (variant_shortens ty sound) (λ ws rest x r. variant_shorter r) variant_complete r

module _ (r : Readers) where
  abbrev item_from : List AttributeItem → List Word → List Word → Read (Option DeclaredItem)
  item_from attrs us vs = use_or_declaration r attrs us vs (keyword_at Use vs)

  item_head : {ws us : List Word} {attrs : List AttributeItem} (w : Word) (vs : List Word) → IsAttributes ws attrs us → IsVisibility us (w ∷ vs) → begins_attribute w ≡ false → as_keyword Pub w ≡ None → is_scope w ≡ false
      → item_at r ws ≡ item_from attrs us (w ∷ vs)
  unfolding item_at
  item_head {us = us} {attrs = attrs} w vs d v n p g =
      ap (λ (q : Read (List AttributeItem)). q >>= λ p. item_from p.0 p.1 (after_visibility false p.1)) (attributes_complete d (visibility_no_attribute v n))
      ∙ ap (item_from attrs us) (visibility_complete w vs v refl p g)

  pub use_head : {ws rest : List Word} → IsUse ws rest → item_at r ws ≡ Ok (None, rest)
  use_head (use_line {x = x} {vs = vs} d v e) = item_head (keyword Use x) vs d v refl refl refl ∙ ap left_by e

  pub struct_head : {ws us gs : List Word} {attrs : List AttributeItem} {x y : Ident} → IsAttributes ws attrs us → IsVisibility us (keyword Struct x ∷ name y ∷ gs)
      → item_at r ws ≡ (generics_at r gs >>= struct_end r y >>= item_end attrs us)
  unfolding declaration_at struct_at
  struct_head {gs = gs} {x = x} {y = y} d v = item_head (keyword Struct x) (name y ∷ gs) d v refl refl refl

  pub enum_head : {ws us gs : List Word} {attrs : List AttributeItem} {x y : Ident} → IsAttributes ws attrs us → IsVisibility us (keyword Enum x ∷ name y ∷ gs)
      → item_at r ws ≡ (generics_at r gs >>= enum_end r y >>= item_end attrs us)
  unfolding declaration_at enum_at
  enum_head {gs = gs} {x = x} {y = y} d v = item_head (keyword Enum x) (name y ∷ gs) d v refl refl refl

  -- a struct whose body does not begin with parentheses
  pub other_first : (ws : List Word) → begins_group Round ws ≡ false → struct_body_at r ws ≡ other_body_at r ws
  unfolding struct_body_at
  other_first ws e = ap (λ b. cond b (tuple_body_at r ws) (other_body_at r ws)) e

-- ---- declarations
module _ (r : Readers) (sound : AreSound r) (D : Span → Type 0) (found : AreComplete D r) where
  abbrev ty : List Word → Read Written
  ty = r.ty

  no_round_first : {ws rest : List Word} → IsWhere ws rest → begins_group Round rest ≡ false → begins_group Round ws ≡ false
  no_round_first no_where e = e
  no_round_first (where_clause l) e = refl

  abbrev behind_where : List Word → Read FieldItems
  behind_where us = cond (begins_group Curly us) (fields_at ty us) (without_fields us)

  other_complete : (ws us rest : List Word) (fs : FieldItems) → IsWhere ws us → begins_group Round us ≡ false → ends_clause us ≡ true → Finds D (behind_where us) (fs, rest) → Finds D (struct_body_at r ws) (fs, rest)
  unfolding other_body_at
  other_complete ws us rest fs w round ends f = like_finds D (other_first r ws (no_round_first w round)) (then_finds D (after_where r ws) behind_where us (fs, rest) (where_complete r sound D found w ends) f)

  braced_complete : {ws us rest : List Word} {fs : List FieldItem} → IsWhere ws us → IsFields us (named fs) rest → Finds D (struct_body_at r ws) (named fs, rest)
  braced_complete {ws = ws} {us = us} {rest = rest} {fs = fs} w (named_fields l) = other_complete ws us rest (named fs) w refl refl (fields_complete ty sound.types D found.types (named_fields l) tt)

  tuple_complete : {ws us rest : List Word} {fs : List FieldItem} {end : Span} → IsFields ws (unnamed fs) us → IsWhere us (sign Semicolon end ∷ rest) → Finds D (struct_body_at r ws) (unnamed fs, rest)
  unfolding struct_body_at tuple_body_at
  tuple_complete {ws = ws} {us = us} {rest = rest} {fs = fs} {end = end} (unnamed_fields l) w =
      let done : List Word → Read FieldItems = λ us. sign_at Semicolon us >>= λ end. Ok (unnamed fs, end.1) in
      let after : FieldItems × List Word → Read FieldItems = λ fs. after_where r fs.1 >>= λ us. sign_at Semicolon us >>= λ end. Ok (fs.0, end.1) in
      then_finds D (fields_at ty ws) after (unnamed fs, us) (unnamed fs, rest) (fields_complete ty sound.types D found.types (unnamed_fields l) tt)
      (then_finds D (after_where r us) done (sign Semicolon end ∷ rest) (unnamed fs, rest) (where_complete r sound D found w refl) (inl refl))

  pub body_complete : {ws rest : List Word} {fs : FieldItems} → IsStructBody ws fs rest → Finds D (struct_body_at r ws) (fs, rest)
  body_complete (in_braces w f) = braced_complete w f
  body_complete (in_parentheses f w) = tuple_complete f w
  body_complete (fieldless {end = end} {ws = ws} {rest = rest} w) = other_complete ws (sign Semicolon end ∷ rest) rest unit w refl refl (inl refl)

  struct_complete : {ws rest : List Word} {d : DeclaredItem} → IsStruct ws d rest → Finds D (item_at r ws) (Some d, rest)
  struct_complete (struct_item {y = y} {attrs = attrs} {ps = ps} {fs = fs} {us = us} {gs = gs} {vs = vs} {rest = rest} ds v g b) =
      let head = head_of y ps (struct_body fs) in
      let done : FieldItems × List Word → Read HeadItem = λ fs. Ok (head_of y ps (struct_body fs.0), fs.1) in
      like_finds D (struct_head r ds v)
      (then_finds D (generics_at r gs >>= struct_end r y) (item_end attrs us) (head, rest) _
      (then_finds D (generics_at r gs) (struct_end r y) (ps, vs) (head, rest) (generics_complete r sound D found g (body_no_less b))
      (then_finds D (struct_body_at r vs) done (fs, rest) (head, rest) (body_complete b) (inl refl))) (inl refl))

  enum_body_complete : {ws rest : List Word} {vs : List VariantItem} → IsEnumBody ws vs rest → Finds D (enum_body_at r ws) (vs, rest)
  unfolding enum_body_at
  enum_body_complete (variants_in_braces {inside = inside} {s = s} {ws = ws} {rest = rest} {vs = vs} w l) =
      let done : List VariantItem → Read (List VariantItem) = λ vs. Ok (vs, rest) in
      then_finds D (after_where r ws) (in_enum_braces r) (group Curly inside s ∷ rest) (vs, rest) (where_complete r sound D found w refl)
      (then_finds D (list_of (variant_at ty) (words_of inside)) done vs (vs, rest) (list_variants ty sound.types D found.types l) (inl refl))

  enum_complete : {ws rest : List Word} {d : DeclaredItem} → IsEnum ws d rest → Finds D (item_at r ws) (Some d, rest)
  enum_complete (enum_item {y = y} {attrs = attrs} {ps = ps} {us = us} {gs = gs} {bs = bs} {rest = rest} {vs = vs} ds v g b) =
      let head = head_of y ps (enum_body vs) in
      let done : List VariantItem × List Word → Read HeadItem = λ vs. Ok (head_of y ps (enum_body vs.0), vs.1) in
      like_finds D (enum_head r ds v)
      (then_finds D (generics_at r gs >>= enum_end r y) (item_end attrs us) (head, rest) _
      (then_finds D (generics_at r gs) (enum_end r y) (ps, bs) (head, rest) (generics_complete r sound D found g (variants_no_less b))
      (then_finds D (enum_body_at r bs) done (vs, rest) (head, rest) (enum_body_complete b) (inl refl))) (inl refl))

  pub declaration_complete : {ws rest : List Word} {d : DeclaredItem} → IsDeclaration ws d rest → Finds D (item_at r ws) (Some d, rest)
  declaration_complete (structure s) = struct_complete s
  declaration_complete (enumeration e) = enum_complete e

  -- ---- a source
  items_complete : {ws : List Word} {ds : List DeclaredItem} → IsItems ws ds → Finds D (items_at r ws) ds
  items_complete nothing = inl (many_none kept (item_at r) (item_shortens r sound) [] refl)
  items_complete (used {ws = ws} {rest = rest} {ds = ds} q h) = more_finds D kept (item_at r) (item_shortens r sound) ws rest None ds (use_shorter q) (inl (use_head r q)) (items_complete h)
  items_complete (declared {ws = ws} {rest = rest} {d = d} {ds = ds} q h) = more_finds D kept (item_at r) (item_shortens r sound) ws rest (Some d) ds (declaration_shorter q) (declaration_complete q) (items_complete h)

  pub source_complete : {ws : List Word} {ds : List DeclaredItem} → IsSource ws ds → Finds D (source_at r ws) ds
  unfolding source_at
  source_complete (inner_doc {t = t} {ws = ws} e q) = like_finds D (ap (items_at r) (inner_step (doc t ∷ ws) ws (inner_doc_at t ws e))) (source_complete q)
  source_complete (inner_attribute {h = h} {e = e} {s = s} {inside = inside} {ws = ws} q) = like_finds D (ap (items_at r) (inner_step (sign Hash h ∷ sign Exclamation e ∷ group Square inside s ∷ ws) ws refl)) (source_complete q)
  source_complete (items {ws = ws} q) = like_finds D (ap (items_at r) (inner_stop ws (items_no_inner q))) (items_complete q)
