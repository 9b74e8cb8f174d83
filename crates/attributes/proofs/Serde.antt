-- Serde's items: what is read is the grammar's, and no less.
use Rattle.std.proofs.Common.{◌≡◌, ◌∙◌, ◌<◌, inl, inr, ℕ, zero, suc, List, [], ◌∷◌, length, refl, ap, sym, subst, arith, Bool, true, false, cond, is_some, Option, Some, None, Result, Ok, Err}
use Rattle.texts.specs.declared.span.Span.{Span}
use Rattle.tokens.specs.declared.token.Token.{Token}
use Rattle.written_types.specs.declared.written.Ident.{Ident}
use Rattle.words.specs.declared.vocabulary.Sign.TheVariants.{Comma, Equals}
use Rattle.words.specs.Words.{Word, name, underscore, keyword, sign, lifetime, literal, doc, group}
use Rattle.words.specs.Reading.{Fault, deep, wrong, Read, ◌>>=◌, taken, first_as, as_literal, as_sign, literal_at}
use Rattle.words.specs.Lists.{IsList, after_comma, turn_at, many_at, many_of, itself, list_of}
use Rattle.words.proofs.Laws.{bind_ok, along, first_is, first_shallow, as_sign-is, Shortens, list_sound, Ends, at_end, at_comma}
use Rattle.words.proofs.Laws as complete
use Rattle.literal_values.specs.Values.{text_value}
use Rattle.attributes.specs.declared.serde_item.SerdeItem.{SerdeItem}
use Rattle.attributes.specs.declared.serde_item.SerdeText.{SerdeText}
use Rattle.attributes.specs.AttributeWords.{as_ident, text_item}
use Rattle.attributes.specs.AttributeGrammar.{IsSerdeItem, bare, texted, grouped}
use Rattle.attributes.specs.AttributeReading.{ident_at, text_from, text_at, value_at, serde_item_at}

-- ---- sound
-- the item that a name and a value are
abbrev item : Ident → Option SerdeText → SerdeItem
item x v = record { name = x; value = v }

as_literal-is : (w : Word) (t : Token) → as_literal w ≡ Some t → w ≡ literal t
as_literal-is (name x) t e = cc
as_literal-is (underscore x) t e = cc
as_literal-is (keyword k x) t e = cc
as_literal-is (sign k s) t e = cc
as_literal-is (lifetime x) t e = cc
as_literal-is (literal u) t e = cc
as_literal-is (doc u) t e = cc
as_literal-is (group b ts s) t e = cc

text_from_sound : (t : Token) (ws : List Word) (o : Option (List ℕ)) (v : SerdeText) (rest : List Word) → text_from t ws o ≡ Ok (v, rest) → (text : List ℕ) × (o ≡ Some text) × (v ≡ record { text = text; span = t.span }) × (ws ≡ rest)
text_from_sound t ws None v rest e = cc
text_from_sound t ws (Some text) v rest e = along (λ u us. (more : List ℕ) × (Some text ≡ Some more) × (u ≡ record { text = more; span = t.span }) × (ws ≡ us)) (record { text = text; span = t.span }, ws) (v, rest) e (text, refl, refl, refl)

text_sound : (ws : List Word) (v : SerdeText) (rest : List Word) → text_at ws ≡ Ok (v, rest) → (t : Token) × (text : List ℕ) × (ws ≡ literal t ∷ rest) × (text_value t ≡ Some text) × (v ≡ record { text = text; span = t.span })
unfolding text_at
text_sound ws v rest e =
    let t = bind_ok (literal_at ws) e in
    let first = first_is {kind = as_literal} ws t.0 t.1 in
    let h = text_from_sound t.0.0 t.0.1 (text_value t.0.0) v rest t.2 in
    (t.0.0, h.0, first.1 ∙ ap (λ w. w ∷ t.0.1) (as_literal-is first.0 t.0.0 first.2) ∙ ap (λ us. literal t.0.0 ∷ us) h.3, h.1, h.2)

-- an identifier and what may stand behind it
abbrev Item : Word → Ident → Type 0
Item w x = as_ident w ≡ Some x

none_sound : (w : Word) (x : Ident) (ws : List Word) (v : Option SerdeText) (rest : List Word) → Item w x → ◌≡◌ {A = Read (Option SerdeText)} (Ok (None, ws)) (Ok (v, rest)) → IsSerdeItem (w ∷ ws) (item x v) rest
none_sound w x ws v rest is e = along (λ u us. IsSerdeItem (w ∷ ws) (item x u) us) (None, ws) (v, rest) e (bare is)

abbrev some_text : SerdeText × List Word → Read (Option SerdeText)
some_text t = Ok (Some t.0, t.1)

equals_sound : (w : Word) (x : Ident) (u : Word) (ws : List Word) (v : Option SerdeText) (rest : List Word) (o : Option Span) → Item w x → as_sign Equals u ≡ o
    → cond (is_some o) (text_at ws >>= some_text) (Ok (None, u ∷ ws)) ≡ Ok (v, rest) → IsSerdeItem (w ∷ u ∷ ws) (item x v) rest
equals_sound w x u ws v rest None is which e = none_sound w x (u ∷ ws) v rest is e
equals_sound w x u ws v rest (Some s) is which e =
    let t = bind_ok (text_at ws) e in
    let h = text_sound ws t.0.0 t.0.1 t.1 in
    along (λ y us. IsSerdeItem (w ∷ u ∷ ws) (item x y) us) (Some t.0.0, t.0.1) (v, rest) t.2
    (subst (λ y. IsSerdeItem (w ∷ u ∷ ws) (item x (Some y)) t.0.1) (sym h.4)
    (subst (λ us. IsSerdeItem (w ∷ u ∷ us) (text_item x h.1 h.0.span) t.0.1) (sym h.2)
    (subst (λ y. IsSerdeItem (w ∷ y ∷ literal h.0 ∷ t.0.1) (text_item x h.1 h.0.span) t.0.1) (sym (as_sign-is Equals u s which)) (texted is h.3))))

value_sound : (w : Word) (x : Ident) (ws : List Word) (v : Option SerdeText) (rest : List Word) → Item w x → value_at ws ≡ Ok (v, rest) → IsSerdeItem (w ∷ ws) (item x v) rest
unfolding value_at
value_sound w x [] v rest is e = none_sound w x [] v rest is e
value_sound w x (group b inside s ∷ ws) v rest is e = along (λ u us. IsSerdeItem (w ∷ group b inside s ∷ ws) (item x u) us) (None, ws) (v, rest) e (grouped is)
value_sound w x (name y ∷ ws) v rest is e = equals_sound w x (name y) ws v rest None is refl e
value_sound w x (underscore y ∷ ws) v rest is e = equals_sound w x (underscore y) ws v rest None is refl e
value_sound w x (keyword k y ∷ ws) v rest is e = equals_sound w x (keyword k y) ws v rest None is refl e
value_sound w x (sign k s ∷ ws) v rest is e = equals_sound w x (sign k s) ws v rest (as_sign Equals (sign k s)) is refl e
value_sound w x (lifetime y ∷ ws) v rest is e = equals_sound w x (lifetime y) ws v rest None is refl e
value_sound w x (literal t ∷ ws) v rest is e = equals_sound w x (literal t) ws v rest None is refl e
value_sound w x (doc t ∷ ws) v rest is e = equals_sound w x (doc t) ws v rest None is refl e

pub item_sound : (ws : List Word) (i : SerdeItem) (rest : List Word) → serde_item_at ws ≡ Ok (i, rest) → IsSerdeItem ws i rest
unfolding serde_item_at
item_sound ws i rest e =
    let x = bind_ok (ident_at ws) e in
    let first = first_is {kind = as_ident} ws x.0 x.1 in
    let v = bind_ok (value_at x.0.1) x.2 in
    along (λ u us. IsSerdeItem ws u us) (item x.0.0 v.0.0, v.0.1) (i, rest) v.2 (subst (λ us. IsSerdeItem us (item x.0.0 v.0.0) v.0.1) (sym first.1) (value_sound first.0 x.0.0 x.0.1 v.0.0 v.0.1 first.2 v.1))

item_shorter : {ws rest : List Word} {i : SerdeItem} → IsSerdeItem ws i rest → length rest < length ws
item_shorter (bare e) = omega arith
item_shorter (texted e t) = omega arith
item_shorter (grouped e) = omega arith

pub item_shortens : Shortens serde_item_at
item_shortens ws i rest e = item_shorter (item_sound ws i rest e)

pub items_sound : (ws : List Word) (xs : List SerdeItem) → list_of serde_item_at ws ≡ Ok xs → IsList IsSerdeItem ws xs
items_sound ws xs e = list_sound serde_item_at IsSerdeItem item_sound ws xs e

-- ---- no less
-- nothing in these lists nests too deep
abbrev nowhere : Span → Type 0
nowhere at = ⊥

abbrev after_ident : Ident × List Word → Read SerdeItem
after_ident x = value_at x.1 >>= λ v. Ok (item x.0 v.0, v.1)

item_from : (w : Word) (x : Ident) (ws : List Word) (v : Option SerdeText) (rest : List Word) → as_ident w ≡ Some x → value_at ws ≡ Ok (v, rest) → serde_item_at (w ∷ ws) ≡ Ok (item x v, rest)
unfolding serde_item_at
item_from w x ws v rest is e = ap (λ o. taken o ws >>= after_ident) is ∙ ap (λ (r : Read (Option SerdeText)). r >>= λ v. Ok (item x v.0, v.1)) e

ended_value : {ws : List Word} → Ends ws → value_at ws ≡ Ok (None, ws)
unfolding value_at
ended_value at_end = refl
ended_value at_comma = refl

text_given : (s : Span) (t : Token) (text : List ℕ) (rest : List Word) → text_value t ≡ Some text → value_at (sign Equals s ∷ literal t ∷ rest) ≡ Ok (Some (record { text = text; span = t.span }), rest)
unfolding value_at text_at
text_given s t text rest e = ap (λ (o : Option (List ℕ)). text_from t rest o >>= some_text) e

item_complete : (ws rest : List Word) (i : SerdeItem) → IsSerdeItem ws i rest → Ends rest → complete.Finds nowhere (serde_item_at ws) (i, rest)
unfolding value_at
item_complete _ rest _ (bare {w = w} {x = x} e) ends = inl (item_from w x rest None rest e (ended_value ends))
item_complete _ rest _ (texted {w = w} {x = x} {s = s} {t = t} {text = text} e v) ends = inl (item_from w x (sign Equals s ∷ literal t ∷ rest) (Some (record { text = text; span = t.span })) rest e (text_given s t text rest v))
item_complete _ rest _ (grouped {w = w} {x = x} {b = b} {inside = inside} {s = s} e) ends = inl (item_from w x (group b inside s ∷ rest) None rest e refl)

pub items_complete : {ws : List Word} {xs : List SerdeItem} → IsList IsSerdeItem ws xs → list_of serde_item_at ws ≡ Ok xs
items_complete r = elim (complete.list_complete nowhere serde_item_at IsSerdeItem item_shortens (λ ws rest x r. item_shorter r) item_complete r) [
  | inl e ↦ e
  | inr d ↦ absurd d.2
]

-- ---- never too deep
abbrev pub Shallow : {A : Type 0} → Result A Fault → Type 0
Shallow r = (at : Span) → r ≡ Err (deep at) → ⊥

err_is : {B : Type 0} (y z : Fault) → ◌≡◌ {A = Result B Fault} (Err y) (Err z) → y ≡ z
err_is y z e = cc

pub then_shallow : {A B : Type 0} (r : Result A Fault) (f : A → Result B Fault) → Shallow r → ((x : A) → Shallow (f x)) → Shallow (r >>= f)
then_shallow (Err y) f h k at e = h at (ap (λ z. Err z) (err_is y (deep at) e))
then_shallow (Ok x) f h k at e = k x at e

pub ok_shallow : {A : Type 0} (x : A) → Shallow (Ok x)
ok_shallow x at e = cc

pub wrong_shallow : {A : Type 0} → Shallow {A = A} (Err wrong)
wrong_shallow at e = cc

pub cond_shallow : {A : Type 0} (b : Bool) (r q : Result A Fault) → Shallow r → Shallow q → Shallow (cond b r q)
cond_shallow true r q h k = h
cond_shallow false r q h k = k

pub word_shallow : {A : Type 0} (kind : Word → Option A) (ws : List Word) → Shallow (first_as kind ws)
word_shallow kind ws at e = first_shallow kind ws at e

text_from_shallow : (t : Token) (ws : List Word) (o : Option (List ℕ)) → Shallow (text_from t ws o)
text_from_shallow t ws None = wrong_shallow
text_from_shallow t ws (Some text) = ok_shallow (record { text = text; span = t.span }, ws)

text_shallow : (ws : List Word) → Shallow (text_at ws)
unfolding text_at
text_shallow ws = then_shallow (literal_at ws) (λ t. text_from t.0 t.1 (text_value t.0)) (word_shallow as_literal ws) (λ t. text_from_shallow t.0 t.1 (text_value t.0))

equals_shallow : (w : Word) (ws : List Word) → Shallow (cond (is_some (as_sign Equals w)) (text_at ws >>= some_text) (Ok (None, w ∷ ws)))
equals_shallow w ws = cond_shallow (is_some (as_sign Equals w)) (text_at ws >>= some_text) (Ok (None, w ∷ ws)) (then_shallow (text_at ws) some_text (text_shallow ws) (λ t. ok_shallow (Some t.0, t.1))) (ok_shallow (None, w ∷ ws))

value_shallow : (ws : List Word) → Shallow (value_at ws)
unfolding value_at
value_shallow [] = ok_shallow (None, [])
value_shallow (group b inside s ∷ ws) = ok_shallow (None, ws)
value_shallow (name y ∷ ws) = equals_shallow (name y) ws
value_shallow (underscore y ∷ ws) = equals_shallow (underscore y) ws
value_shallow (keyword k y ∷ ws) = equals_shallow (keyword k y) ws
value_shallow (sign k s ∷ ws) = equals_shallow (sign k s) ws
value_shallow (lifetime y ∷ ws) = equals_shallow (lifetime y) ws
value_shallow (literal t ∷ ws) = equals_shallow (literal t) ws
value_shallow (doc t ∷ ws) = equals_shallow (doc t) ws

item_shallow : (ws : List Word) → Shallow (serde_item_at ws)
unfolding serde_item_at
item_shallow ws = then_shallow (ident_at ws) after_ident (word_shallow as_ident ws) (λ x. then_shallow (value_at x.1) (λ v. Ok (item x.0 v.0, v.1)) (value_shallow x.1) (λ v. ok_shallow (item x.0 v.0, v.1)))

comma_shallow : (ws : List Word) → Shallow (after_comma ws)
comma_shallow [] = ok_shallow []
comma_shallow (w ∷ ws) = then_shallow (first_as (as_sign Comma) (w ∷ ws)) (λ p. Ok p.1) (word_shallow (as_sign Comma) (w ∷ ws)) (λ p. ok_shallow p.1)

turn_shallow : (ws : List Word) → Shallow (turn_at serde_item_at ws)
unfolding turn_at
turn_shallow ws = then_shallow (serde_item_at ws) (λ p. after_comma p.1 >>= λ rest. Ok (p.0, rest)) (item_shallow ws) (λ p. then_shallow (after_comma p.1) (λ rest. Ok (p.0, rest)) (comma_shallow p.1) (λ rest. ok_shallow (p.0, rest)))

within_shallow : (n : ℕ) (ws : List Word) → Shallow (many_at itself (turn_at serde_item_at) n ws)
unfolding many_at
within_shallow zero ws = wrong_shallow
within_shallow (suc n) [] = ok_shallow []
within_shallow (suc n) (w ∷ ws) =
    then_shallow (turn_at serde_item_at (w ∷ ws)) (λ p. many_at itself (turn_at serde_item_at) n p.1 >>= λ xs. Ok (p.0 ∷ xs)) (turn_shallow (w ∷ ws))
    (λ p. then_shallow (many_at itself (turn_at serde_item_at) n p.1) (λ xs. Ok (p.0 ∷ xs)) (within_shallow n p.1) (λ xs. ok_shallow (p.0 ∷ xs)))

pub items_shallow : (ws : List Word) → Shallow (list_of serde_item_at ws)
unfolding many_of
items_shallow ws = within_shallow (suc (length ws)) ws
