-- What readers of items that went well have read, where ty reads types.
use Rattle.std.proofs.Common.{◌≡◌, ◌∙◌, ℕ, zero, suc, ◌<◌, ◌≤◌, List, [], ◌∷◌, ◌++◌, length, refl, ap, sym, subst, arith, Bool, true, false, cond, Option, Some, None, Result, Ok, Err}
use Rattle.texts.specs.declared.span.Span.{Span}
use Rattle.tokens.specs.declared.token.Bracket.{Bracket}
use Rattle.tokens.specs.declared.token.Bracket.TheVariants.{Round, Square, Curly}
use Rattle.tokens.specs.Trees.{Trees}
use Rattle.written_types.specs.declared.written.Ident.{Ident}
use Rattle.written_types.specs.Written.{Written}
use Rattle.words.specs.declared.vocabulary.Keyword.{Keyword}
use Rattle.words.specs.declared.vocabulary.Keyword.TheVariants.{Struct, Enum, Use}
use Rattle.words.specs.declared.vocabulary.Sign.TheVariants.{Colon, Semicolon, Equals, Hash, Exclamation}
use Rattle.words.specs.Words.{Word, name, underscore, keyword, sign, lifetime, literal, doc, group, words_of}
use Rattle.words.specs.Reading.{Fault, wrong, Read, ◌>>=◌, name_at, keyword_at, sign_at, group_at}
use Rattle.type_grammar.specs.Grammar.{IsType}
use Rattle.words.specs.Lists.{many_at, many_of, list_of}
use Rattle.attributes.specs.Attributes.{AttributeItem}
use Rattle.attributes.specs.AttributeWords.{is_inner_doc}
use Rattle.attributes.specs.AttributeGrammar.{IsAttributes}
use Rattle.attributes.specs.AttributeReading.{attributes_at}
use Rattle.attributes.proofs.Laws.{attributes_sound, attributes_no_longer}
use Rattle.syntax.specs.Items.{FieldItem, FieldItems, named, unnamed, unit, VariantItem, HeadItem, DeclaredItem}
use Rattle.words.specs.Visibility.{is_semicolon, after_semicolon, is_end}
use Rattle.syntax.specs.ItemWords.{before_comma, from_comma}
use Rattle.syntax.specs.ItemGrammar.{IsVisibility, IsNamedField, named_field, IsUnnamedField, unnamed_field, IsFields, named_fields, unnamed_fields, no_fields, IsStructBody, in_braces, in_parentheses, fieldless, IsDiscriminant, no_discriminant, discriminant, IsVariant, variant_item, IsUse, use_line, IsEnumBody, variants_in_braces, struct_item, enum_item, IsDeclaration, structure, enumeration, IsItems, nothing, used, declared, IsSource, inner_doc, inner_attribute, items}
use Rattle.syntax.specs.Generics.{IsWhere}
use Rattle.syntax.specs.ItemReading.{after_visibility, field_of, named_field_at, unnamed_field_at, fields_in, fields_at, begins_group, without_fields, tuple_body_at, other_body_at, struct_body_at, value_or_none, discriminant_at, variant_of, variant_at, declared_of, struct_at, enum_body_at, enum_at, struct_or_enum, declaration_at, left_by, use_or_declaration, item_at, kept, after_inner_attribute, inner_at, inner_from, after_inner_within, after_inner, source_at}
use Rattle.words.proofs.Laws.{bind_ok, ok_is, along, same_bracket-is, name-is, keyword-is, sign-is, group-is, Shortens, list_sound}
use Rattle.syntax.proofs.Fronts.{visibility_sound, visibility_no_longer}
use Rattle.syntax.specs.GenericReading.{Readers, generics_at, after_where}
use Rattle.syntax.proofs.Types.{type_shorter}
use Rattle.syntax.proofs.SoundGenerics.{AreSound, generics_sound, where_sound, generics_no_longer, where_no_longer}
use Rattle.syntax.proofs.Commas.{from_comma_no_longer}

-- ---- what an item is longer than
pub named_shorter : {ws rest : List Word} {f : FieldItem} → IsNamedField ws f rest → length rest < length ws
named_shorter (named_field d v r) = omega (arith, attributes_no_longer d, visibility_no_longer v, type_shorter r)

pub unnamed_shorter : {ws rest : List Word} {f : FieldItem} → IsUnnamedField ws f rest → length rest < length ws
unnamed_shorter (unnamed_field d v r) = omega (arith, attributes_no_longer d, visibility_no_longer v, type_shorter r)

fields_no_longer : {ws rest : List Word} {fs : FieldItems} → IsFields ws fs rest → length rest ≤ length ws
fields_no_longer (named_fields r) = omega arith
fields_no_longer (unnamed_fields r) = omega arith
fields_no_longer no_fields = omega arith

body_no_longer : {ws rest : List Word} {fs : FieldItems} → IsStructBody ws fs rest → length rest ≤ length ws
body_no_longer (in_braces w r) = omega (arith, where_no_longer w, fields_no_longer r)
body_no_longer (in_parentheses r w) = omega (arith, fields_no_longer r, where_no_longer w)
body_no_longer (fieldless w) = omega (arith, where_no_longer w)

variants_shorter : {ws rest : List Word} {vs : List VariantItem} → IsEnumBody ws vs rest → length rest < length ws
variants_shorter (variants_in_braces w r) = omega (arith, where_no_longer w)

discriminant_no_longer : {ws rest : List Word} {o : Option (List Word)} → IsDiscriminant ws o rest → length rest ≤ length ws
discriminant_no_longer no_discriminant = omega arith
discriminant_no_longer (discriminant {ws = ws} e) = omega (arith, from_comma_no_longer ws)

pub variant_shorter : {ws rest : List Word} {v : VariantItem} → IsVariant ws v rest → length rest < length ws
variant_shorter (variant_item d f v) = omega (arith, attributes_no_longer d, fields_no_longer f, discriminant_no_longer v)

semicolon_from : (b : Bool) (ws rest : List Word) (o : Option (List Word)) → (o ≡ Some rest → length rest < length ws) → cond b (Some ws) o ≡ Some rest → length rest < suc (length ws)
semicolon_from true ws rest o h e = let same : ws ≡ rest = cc in let l = ap length same in omega arith
semicolon_from false ws rest o h e = let less = h e in omega arith

semicolon_shorter : (ws rest : List Word) → after_semicolon ws ≡ Some rest → length rest < length ws
semicolon_shorter [] rest e = cc
semicolon_shorter (w ∷ ws) rest e = semicolon_from (is_semicolon w) ws rest (after_semicolon ws) (semicolon_shorter ws rest) e

pub use_shorter : {ws rest : List Word} → IsUse ws rest → length rest < length ws
use_shorter (use_line {vs = vs} {rest = rest} d v e) = omega (arith, attributes_no_longer d, visibility_no_longer v, semicolon_shorter vs rest e)

pub declaration_shorter : {ws rest : List Word} {d : DeclaredItem} → IsDeclaration ws d rest → length rest < length ws
declaration_shorter (structure (struct_item d v g b)) = omega (arith, attributes_no_longer d, visibility_no_longer v, generics_no_longer g, body_no_longer b)
declaration_shorter (enumeration (enum_item d v g b)) = omega (arith, attributes_no_longer d, visibility_no_longer v, generics_no_longer g, variants_shorter b)

-- an item that is read
abbrev pub ItemRead : List Word → Option DeclaredItem → List Word → Type 0
ItemRead ws None rest = IsUse ws rest
ItemRead ws (Some d) rest = IsDeclaration ws d rest

item_shorter : (ws : List Word) (o : Option DeclaredItem) (rest : List Word) → ItemRead ws o rest → length rest < length ws
item_shorter ws None rest r = use_shorter r
item_shorter ws (Some d) rest r = declaration_shorter r

-- ---- an inner doc or attribute
inner_doc_from : (w : Word) (ws : List Word) (ds : List DeclaredItem) → is_inner_doc w ≡ true → IsSource ws ds → IsSource (w ∷ ws) ds
inner_doc_from (name x) ws ds e r = cc
inner_doc_from (underscore x) ws ds e r = cc
inner_doc_from (keyword k x) ws ds e r = cc
inner_doc_from (sign k s) ws ds e r = cc
inner_doc_from (lifetime x) ws ds e r = cc
inner_doc_from (literal t) ws ds e r = cc
inner_doc_from (doc t) ws ds e r = inner_doc e r
inner_doc_from (group b ts s) ws ds e r = cc

inner_attribute_from : (ws us : List Word) (ds : List DeclaredItem) → after_inner_attribute ws ≡ Ok us → IsSource us ds → IsSource ws ds
inner_attribute_from ws us ds e r =
    let h = bind_ok (sign_at Hash ws) e in
    let x = bind_ok (sign_at Exclamation h.0.1) h.2 in
    let g = bind_ok (group_at Square x.0.1) x.2 in
    let same : g.0.1 ≡ us = ok_is g.2 in
    let is : ws ≡ sign Hash h.0.0 ∷ sign Exclamation x.0.0 ∷ group Square g.0.0.0 g.0.0.1 ∷ us =
    sign-is Hash ws h.0 h.1 ∙ ap (λ v. sign Hash h.0.0 ∷ v) (sign-is Exclamation h.0.1 x.0 x.1 ∙ ap (λ v. sign Exclamation x.0.0 ∷ v) (group-is Square x.0.1 g.0 g.1 ∙ ap (λ v. group Square g.0.0.0 g.0.0.1 ∷ v) same)) in
    subst (λ v. IsSource v ds) (sym is) (inner_attribute r)

inner_step_from : (w : Word) (ws us : List Word) (ds : List DeclaredItem) (b : Bool) → is_inner_doc w ≡ b → cond b (Ok ws) (after_inner_attribute (w ∷ ws)) ≡ Ok us → IsSource us ds → IsSource (w ∷ ws) ds
inner_step_from w ws us ds true is e r = inner_doc_from w ws ds is (subst (λ v. IsSource v ds) (sym (ok_is e)) r)
inner_step_from w ws us ds false is e r = inner_attribute_from (w ∷ ws) us ds e r

inner_step_sound : (ws us : List Word) (ds : List DeclaredItem) → inner_at ws ≡ Ok us → IsSource us ds → IsSource ws ds
inner_step_sound [] us ds e r = cc
inner_step_sound (w ∷ ws) us ds e r = inner_step_from w ws us ds (is_inner_doc w) refl e r

inner_from_sound : (again : List Word → List Word) (ws : List Word) (ds : List DeclaredItem) (r : Result (List Word) Fault) → inner_at ws ≡ r → ((us : List Word) → IsSource (again us) ds → IsSource us ds)
    → IsSource (inner_from again ws r) ds → IsSource ws ds
inner_from_sound again ws ds (Err e) is others h = h
inner_from_sound again ws ds (Ok us) is others h = inner_step_sound ws us ds is (others us h)

inner_within_sound : (n : ℕ) (ws : List Word) (ds : List DeclaredItem) → IsSource (after_inner_within n ws) ds → IsSource ws ds
unfolding after_inner_within
inner_within_sound zero ws ds h = h
inner_within_sound (suc n) ws ds h = inner_from_sound (after_inner_within n) ws ds (inner_at ws) refl (λ us r. inner_within_sound n us ds r) h

-- a keyword and a name stand where they were read
headed : {A : Type 0} {f : Ident × List Word → Result A Fault} {y : A} (k : Keyword) (us : List Word) → (keyword_at k us >>= λ s. name_at s.1 >>= f) ≡ Ok y
    → (x : Ident) × (p : Ident × List Word) × (us ≡ keyword k x ∷ name p.0 ∷ p.1) × (f p ≡ Ok y)
headed k us e =
    let s = bind_ok (keyword_at k us) e in
    let x = bind_ok (name_at s.0.1) s.2 in
    let word = keyword-is k us s.0 s.1 in
    (word.0, x.0, word.1 ∙ ap (λ v. keyword k word.0 ∷ v) (name-is s.0.1 x.0 x.1), x.2)

-- ---- what follows fields, and where none stand
unit_sound : (ws : List Word) (fs : FieldItems) (rest : List Word) → ◌≡◌ {A = Read FieldItems} (Ok (unit, ws)) (Ok (fs, rest)) → IsFields ws fs rest
unit_sound ws fs rest e = along (λ v w. IsFields ws v w) (unit, ws) (fs, rest) e no_fields

value_sound : (s : Span) (ws : List Word) (o : Option (List Word)) (rest : List Word) (b : Bool) → is_end (before_comma ws) ≡ b → cond {A = Read (Option (List Word))} b (Err wrong) (Ok (Some (before_comma ws), from_comma ws)) ≡ Ok (o, rest)
    → IsDiscriminant (sign Equals s ∷ ws) o rest
value_sound s ws o rest true is e = cc
value_sound s ws o rest false is e = along (λ v w. IsDiscriminant (sign Equals s ∷ ws) v w) (Some (before_comma ws), from_comma ws) (o, rest) e (discriminant is)

value_or_none_sound : (ws : List Word) (o : Option (List Word)) (rest : List Word) (r : Read Span) → sign_at Equals ws ≡ r → value_or_none ws r ≡ Ok (o, rest) → IsDiscriminant ws o rest
value_or_none_sound ws o rest (Err f) is e = along (λ v w. IsDiscriminant ws v w) (None, ws) (o, rest) e no_discriminant
value_or_none_sound ws o rest (Ok s) is e = subst (λ v. IsDiscriminant v o rest) (sym (sign-is Equals ws s is)) (value_sound s.0 s.1 o rest (is_end (before_comma s.1)) refl e)

discriminant_sound : (ws : List Word) (o : Option (List Word)) (rest : List Word) → discriminant_at ws ≡ Ok (o, rest) → IsDiscriminant ws o rest
unfolding discriminant_at
discriminant_sound ws o rest e = value_or_none_sound ws o rest (sign_at Equals ws) refl e

module _ (ty : List Word → Read Written) (sound : (ws : List Word) (t : Written) (rest : List Word) → ty ws ≡ Ok (t, rest) → IsType ws t rest) where
  -- ---- fields
  pub named_sound : (ws : List Word) (f : FieldItem) (rest : List Word) → named_field_at ty ws ≡ Ok (f, rest) → IsNamedField ws f rest
  unfolding named_field_at
  named_sound ws f rest e =
      let d = bind_ok (attributes_at ws) e in
      let us = after_visibility false d.0.1 in
      let x = bind_ok (name_at us) d.2 in
      let c = bind_ok (sign_at Colon x.0.1) x.2 in
      let t = bind_ok (ty c.0.1) c.2 in
      let is : us ≡ name x.0.0 ∷ sign Colon c.0.0 ∷ c.0.1 = name-is us x.0 x.1 ∙ ap (λ v. name x.0.0 ∷ v) (sign-is Colon x.0.1 c.0 c.1) in
      along (λ v w. IsNamedField ws v w) (field_of d.0.0 (Some x.0.0) d.0.1 t.0) (f, rest) t.2
      (named_field (attributes_sound ws d.0.0 d.0.1 d.1) (subst (λ v. IsVisibility d.0.1 v) is (visibility_sound false d.0.1)) (sound c.0.1 t.0.0 t.0.1 t.1))

  pub unnamed_sound : (ws : List Word) (f : FieldItem) (rest : List Word) → unnamed_field_at ty ws ≡ Ok (f, rest) → IsUnnamedField ws f rest
  unfolding unnamed_field_at
  unnamed_sound ws f rest e =
      let d = bind_ok (attributes_at ws) e in
      let us = after_visibility true d.0.1 in
      let t = bind_ok (ty us) d.2 in
      along (λ v w. IsUnnamedField ws v w) (field_of d.0.0 None d.0.1 t.0) (f, rest) t.2 (unnamed_field (attributes_sound ws d.0.0 d.0.1 d.1) (visibility_sound true d.0.1) (sound us t.0.0 t.0.1 t.1))

  pub named_shortens : Shortens (named_field_at ty)
  named_shortens ws f rest e = named_shorter (named_sound ws f rest e)

  pub unnamed_shortens : Shortens (unnamed_field_at ty)
  unnamed_shortens ws f rest e = unnamed_shorter (unnamed_sound ws f rest e)

  fields_in_sound : (b : Bracket) (inside : Trees) (s : Span) (ws : List Word) (fs : FieldItems) (rest : List Word) → fields_in ty b (words_of inside) ws ≡ Ok (fs, rest) → IsFields (group b inside s ∷ ws) fs rest
  fields_in_sound Curly inside s ws fs rest e =
      let l = bind_ok (list_of (named_field_at ty) (words_of inside)) e in
      along (λ v w. IsFields (group Curly inside s ∷ ws) v w) (named l.0, ws) (fs, rest) l.2 (named_fields (list_sound (named_field_at ty) IsNamedField named_sound (words_of inside) l.0 l.1))
  fields_in_sound Round inside s ws fs rest e =
      let l = bind_ok (list_of (unnamed_field_at ty) (words_of inside)) e in
      along (λ v w. IsFields (group Round inside s ∷ ws) v w) (unnamed l.0, ws) (fs, rest) l.2 (unnamed_fields (list_sound (unnamed_field_at ty) IsUnnamedField unnamed_sound (words_of inside) l.0 l.1))
  fields_in_sound Square inside s ws fs rest e = cc

  pub fields_sound : (ws : List Word) (fs : FieldItems) (rest : List Word) → fields_at ty ws ≡ Ok (fs, rest) → IsFields ws fs rest
  unfolding fields_at
  fields_sound [] fs rest e = unit_sound [] fs rest e
  fields_sound (name x ∷ ws) fs rest e = unit_sound (name x ∷ ws) fs rest e
  fields_sound (underscore x ∷ ws) fs rest e = unit_sound (underscore x ∷ ws) fs rest e
  fields_sound (keyword k x ∷ ws) fs rest e = unit_sound (keyword k x ∷ ws) fs rest e
  fields_sound (sign k s ∷ ws) fs rest e = unit_sound (sign k s ∷ ws) fs rest e
  fields_sound (lifetime x ∷ ws) fs rest e = unit_sound (lifetime x ∷ ws) fs rest e
  fields_sound (literal t ∷ ws) fs rest e = unit_sound (literal t ∷ ws) fs rest e
  fields_sound (doc t ∷ ws) fs rest e = unit_sound (doc t ∷ ws) fs rest e
  fields_sound (group b inside s ∷ ws) fs rest e = fields_in_sound b inside s ws fs rest e

  -- ---- declarations
  pub variant_sound : (ws : List Word) (v : VariantItem) (rest : List Word) → variant_at ty ws ≡ Ok (v, rest) → IsVariant ws v rest
  unfolding variant_at
  variant_sound ws v rest e =
      let d = bind_ok (attributes_at ws) e in
      let x = bind_ok (name_at d.0.1) d.2 in
      let fs = bind_ok (fields_at ty x.0.1) x.2 in
      let o = bind_ok (discriminant_at fs.0.1) fs.2 in
      let is : d.0.1 ≡ name x.0.0 ∷ x.0.1 = name-is d.0.1 x.0 x.1 in
      along (λ u w. IsVariant ws u w) (variant_of d.0.0 x.0.0 d.0.1 fs.0.0 o.0) (v, rest) o.2
      (subst (λ us. IsVariant ws (variant_of d.0.0 x.0.0 us fs.0.0 o.0).0 o.0.1) (sym is)
      (variant_item (subst (λ us. IsAttributes ws d.0.0 us) is (attributes_sound ws d.0.0 d.0.1 d.1)) (fields_sound x.0.1 fs.0.0 fs.0.1 fs.1) (discriminant_sound fs.0.1 o.0.0 o.0.1 o.1)))

  pub variant_shortens : Shortens (variant_at ty)
  variant_shortens ws v rest e = variant_shorter (variant_sound ws v rest e)

-- ---- the body of a struct
pub group_first : (b : Bracket) (ws : List Word) → begins_group b ws ≡ true → (inside : Trees) × (s : Span) × (rest : List Word) × (ws ≡ group b inside s ∷ rest)
group_first b [] e = cc
group_first b (group a inside s ∷ ws) e = (inside, s, ws, ap (λ v. group v inside s ∷ ws) (sym (same_bracket-is b a e)))
group_first b (name x ∷ ws) e = cc
group_first b (underscore x ∷ ws) e = cc
group_first b (keyword k x ∷ ws) e = cc
group_first b (sign k s ∷ ws) e = cc
group_first b (lifetime x ∷ ws) e = cc
group_first b (literal t ∷ ws) e = cc
group_first b (doc t ∷ ws) e = cc

module _ (r : Readers) where
  -- fields behind a bracket have its form
  pub unnamed_there : (inside : Trees) (s : Span) (ws : List Word) (fs : FieldItems) (rest : List Word) → fields_at r.ty (group Round inside s ∷ ws) ≡ Ok (fs, rest) → (us : List FieldItem) × (fs ≡ unnamed us)
  unfolding fields_at
  unnamed_there inside s ws fs rest e = let l = bind_ok (list_of (unnamed_field_at r.ty) (words_of inside)) e in (l.0, sym (ap (λ (p : FieldItems × List Word). p.0) (ok_is l.2)))

  pub named_there : (inside : Trees) (s : Span) (ws : List Word) (fs : FieldItems) (rest : List Word) → fields_at r.ty (group Curly inside s ∷ ws) ≡ Ok (fs, rest) → (us : List FieldItem) × (fs ≡ named us)
  unfolding fields_at
  named_there inside s ws fs rest e = let l = bind_ok (list_of (named_field_at r.ty) (words_of inside)) e in (l.0, sym (ap (λ (p : FieldItems × List Word). p.0) (ok_is l.2)))

module _ (r : Readers) (sound : AreSound r) where
  abbrev ty : List Word → Read Written
  ty = r.ty

  tuple_sound : (ws : List Word) (fs : FieldItems) (rest : List Word) → begins_group Round ws ≡ true → tuple_body_at r ws ≡ Ok (fs, rest) → IsStructBody ws fs rest
  unfolding tuple_body_at
  tuple_sound ws fs rest b e =
      let g = group_first Round ws b in
      let f = bind_ok (fields_at ty ws) e in
      let w = bind_ok (after_where r f.0.1) f.2 in
      let end = bind_ok (sign_at Semicolon w.0) w.2 in
      let form = unnamed_there r g.0 g.1 g.2 f.0.0 f.0.1 (ap (fields_at ty) (sym g.3) ∙ f.1) in
      let fields = subst (λ v. IsFields ws v f.0.1) form.1 (fields_sound ty sound.types ws f.0.0 f.0.1 f.1) in
      let clause = subst (λ v. IsWhere f.0.1 v) (sign-is Semicolon w.0 end.0 end.1) (where_sound r sound f.0.1 w.0 w.1) in
      along (λ v us. IsStructBody ws v us) (f.0.0, end.0.1) (fs, rest) end.2 (subst (λ v. IsStructBody ws v end.0.1) (sym form.1) (in_parentheses fields clause))

  behind_where : (ws us : List Word) (fs : FieldItems) (rest : List Word) → IsWhere ws us → (b : Bool) → begins_group Curly us ≡ b → cond b (fields_at ty us) (without_fields us) ≡ Ok (fs, rest) → IsStructBody ws fs rest
  behind_where ws us fs rest w true is e =
      let g = group_first Curly us is in
      let form = named_there r g.0 g.1 g.2 fs rest (ap (fields_at ty) (sym g.3) ∙ e) in
      subst (λ v. IsStructBody ws v rest) (sym form.1) (in_braces w (subst (λ v. IsFields us v rest) form.1 (fields_sound ty sound.types us fs rest e)))
  behind_where ws us fs rest w false is e =
      let end = bind_ok (sign_at Semicolon us) e in
      along (λ v vs. IsStructBody ws v vs) (unit, end.0.1) (fs, rest) end.2 (fieldless (subst (λ v. IsWhere ws v) (sign-is Semicolon us end.0 end.1) w))

  other_sound : (ws : List Word) (fs : FieldItems) (rest : List Word) → other_body_at r ws ≡ Ok (fs, rest) → IsStructBody ws fs rest
  unfolding other_body_at
  other_sound ws fs rest e = let w = bind_ok (after_where r ws) e in behind_where ws w.0 fs rest (where_sound r sound ws w.0 w.1) (begins_group Curly w.0) refl w.2

  body_from : (ws : List Word) (fs : FieldItems) (rest : List Word) (b : Bool) → begins_group Round ws ≡ b → cond b (tuple_body_at r ws) (other_body_at r ws) ≡ Ok (fs, rest) → IsStructBody ws fs rest
  body_from ws fs rest true is e = tuple_sound ws fs rest is e
  body_from ws fs rest false is e = other_sound ws fs rest e

  pub body_sound : (ws : List Word) (fs : FieldItems) (rest : List Word) → struct_body_at r ws ≡ Ok (fs, rest) → IsStructBody ws fs rest
  unfolding struct_body_at
  body_sound ws fs rest e = body_from ws fs rest (begins_group Round ws) refl e

  enum_body_sound : (ws : List Word) (vs : List VariantItem) (rest : List Word) → enum_body_at r ws ≡ Ok (vs, rest) → IsEnumBody ws vs rest
  unfolding enum_body_at
  enum_body_sound ws vs rest e =
      let w = bind_ok (after_where r ws) e in
      let g = bind_ok (group_at Curly w.0) w.2 in
      let l = bind_ok (list_of (variant_at ty) (words_of g.0.0.0)) g.2 in
      let clause = subst (λ v. IsWhere ws v) (group-is Curly w.0 g.0 g.1) (where_sound r sound ws w.0 w.1) in
      along (λ v us. IsEnumBody ws v us) (l.0, g.0.1) (vs, rest) l.2 (variants_in_braces clause (list_sound (variant_at ty) IsVariant (variant_sound ty sound.types) (words_of g.0.0.0) l.0 l.1))

  -- behind attributes and a visibility
  module _ (ws start us : List Word) (attrs : List AttributeItem) (ds : IsAttributes ws attrs start) (v : IsVisibility start us) where
    abbrev Declares : HeadItem × List Word → Type 0
    Declares d = IsDeclaration ws (declared_of attrs start d) d.1

    struct_sound : (d : HeadItem × List Word) → struct_at r us ≡ Ok d → Declares d
    unfolding struct_at
    struct_sound d e =
        let h = headed Struct us e in
        let g = bind_ok (generics_at r h.1.1) h.3 in
        let b = bind_ok (struct_body_at r g.0.1) g.2 in
        subst Declares (ok_is b.2) (structure (struct_item ds (subst (IsVisibility start) h.2 v) (generics_sound r sound h.1.1 g.0.0 g.0.1 g.1) (body_sound g.0.1 b.0.0 b.0.1 b.1)))

    enum_sound : (d : HeadItem × List Word) → enum_at r us ≡ Ok d → Declares d
    unfolding enum_at
    enum_sound d e =
        let h = headed Enum us e in
        let g = bind_ok (generics_at r h.1.1) h.3 in
        let b = bind_ok (enum_body_at r g.0.1) g.2 in
        subst Declares (ok_is b.2) (enumeration (enum_item ds (subst (IsVisibility start) h.2 v) (generics_sound r sound h.1.1 g.0.0 g.0.1 g.1) (enum_body_sound g.0.1 b.0.0 b.0.1 b.1)))

    declaration_from : (d : HeadItem × List Word) (q : Read Span) → struct_or_enum r us q ≡ Ok d → Declares d
    declaration_from d (Ok k) e = struct_sound d e
    declaration_from d (Err f) e = enum_sound d e

    declaration_sound : (d : HeadItem × List Word) → declaration_at r us ≡ Ok d → Declares d
    unfolding declaration_at
    declaration_sound d e = declaration_from d (keyword_at Struct us) e

  left_sound : (ws start us vs : List Word) (attrs : List AttributeItem) (x : Ident) (o : Option DeclaredItem) (rest : List Word) (r : Option (List Word)) → after_semicolon vs ≡ r → IsAttributes ws attrs start → IsVisibility start (keyword Use x ∷ vs)
      → left_by r ≡ Ok (o, rest) → ItemRead ws o rest
  left_sound ws start us vs attrs x o rest None is ds v e = cc
  left_sound ws start us vs attrs x o rest (Some after) is ds v e = along (λ v w. ItemRead ws v w) (None, after) (o, rest) e (use_line ds v is)

  item_from_sound : (ws start us : List Word) (attrs : List AttributeItem) (o : Option DeclaredItem) (rest : List Word) (q : Read Span) → keyword_at Use us ≡ q → IsAttributes ws attrs start → IsVisibility start us
      → use_or_declaration r attrs start us q ≡ Ok (o, rest) → ItemRead ws o rest
  item_from_sound ws start us attrs o rest (Ok u) is ds v e =
      let word = keyword-is Use us u is in left_sound ws start us u.1 attrs word.0 o rest (after_semicolon u.1) refl ds (subst (λ w. IsVisibility start w) word.1 v) e
  item_from_sound ws start us attrs o rest (Err f) is ds v e =
      let d = bind_ok (declaration_at r us) e in along (λ v w. ItemRead ws v w) (Some (declared_of attrs start d.0), d.0.1) (o, rest) d.2 (declaration_sound ws start us attrs ds v d.0 d.1)

  pub item_sound : (ws : List Word) (o : Option DeclaredItem) (rest : List Word) → item_at r ws ≡ Ok (o, rest) → ItemRead ws o rest
  unfolding item_at
  item_sound ws o rest e =
      let d = bind_ok (attributes_at ws) e in
      let us = after_visibility false d.0.1 in
      item_from_sound ws d.0.1 us d.0.0 o rest (keyword_at Use us) refl (attributes_sound ws d.0.0 d.0.1 d.1) (visibility_sound false d.0.1) d.2

  pub item_shortens : Shortens (item_at r)
  item_shortens ws o rest e = item_shorter ws o rest (item_sound ws o rest e)

  -- ---- a source
  more_sound : (ws rest : List Word) (o : Option DeclaredItem) (ds : List DeclaredItem) → ItemRead ws o rest → IsItems rest ds → IsItems ws (kept o ++ ds)
  more_sound ws rest None ds r h = used r h
  more_sound ws rest (Some d) ds r h = declared r h

  items_within : (n : ℕ) (ws : List Word) (ds : List DeclaredItem) → many_at kept (item_at r) n ws ≡ Ok ds → IsItems ws ds
  unfolding many_at
  items_within zero ws ds e = cc
  items_within (suc n) [] ds e = subst (λ v. IsItems [] v) (ok_is e) nothing
  items_within (suc n) (w ∷ ws) ds e =
      let first = bind_ok (item_at r (w ∷ ws)) e in
      let others = bind_ok (many_at kept (item_at r) n first.0.1) first.2 in
      subst (λ v. IsItems (w ∷ ws) v) (ok_is others.2) (more_sound (w ∷ ws) first.0.1 first.0.0 others.0 (item_sound (w ∷ ws) first.0.0 first.0.1 first.1) (items_within n first.0.1 others.0 others.1))

  pub source_sound : (ws : List Word) (ds : List DeclaredItem) → source_at r ws ≡ Ok ds → IsSource ws ds
  unfolding source_at many_of after_inner
  source_sound ws ds e = inner_within_sound (length ws) ws ds (items (items_within _ (after_inner_within (length ws) ws) ds e))
