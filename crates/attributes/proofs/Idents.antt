-- Paths of attributes: what is read is the grammar's, and no less.
use Rattle.std.proofs.Common.{◌≡◌, ◌∙◌, ◌⊎◌, inl, inr, List, [], ◌∷◌, ◌++◌, refl, ap, sym, subst, Bool, true, false, cond, is_some, Option, Some, None, Result, Ok, Err, append_assoc}
use Rattle.std.proofs.lemmas.List.{append-nil}
use Rattle.texts.specs.declared.span.Span.{Span}
use Rattle.written_types.specs.declared.written.Ident.{Ident}
use Rattle.words.specs.declared.stopping.Stop.{Stop}
use Rattle.words.specs.declared.stopping.Stop.TheVariants as stop
use Rattle.words.specs.declared.vocabulary.Sign.TheVariants.{Colons}
use Rattle.words.specs.Words.{Word, sign}
use Rattle.words.specs.Reading.{Fault, deep, wrong, Read, ◌>>=◌, taken, as_sign, sign_at, Fails}
use Rattle.words.proofs.Laws.{bind_ok, bind_err, along, first_shallow, sign-is, as_sign-is}
use Rattle.written_types.specs.Written.{WrittenPath}
use Rattle.attributes.specs.AttributeWords.{as_ident, path_item}
use Rattle.attributes.specs.AttributeGrammar.{IsPath, last_ident, more_idents}
use Rattle.attributes.specs.AttributeReading.{with_before, ident_at, ident_before, more_idents_at, idents_at, path_at}

-- ---- the front of what is read
pub before_nothing : {A : Type 0} (front : List A) (r : Read (List A)) (ws : List Word) → r ≡ Ok ([], ws) → with_before front r ≡ Ok (front, ws)
before_nothing front r ws e = ap (with_before front) e ∙ ap (λ v. Ok (v, ws)) (append-nil front)

pub before_before : {A : Type 0} (front more : List A) (r : Read (List A)) → with_before (front ++ more) r ≡ with_before front (with_before more r)
before_before front more (Err f) = refl
before_before front more (Ok p) = ap (λ v. Ok (v, p.1)) (append_assoc front more p.0)

pub before_fails : {A : Type 0} (front : List A) (s : Stop) (r : Read (List A)) → Fails s r → Fails s (with_before front r)
before_fails front stop.Memory r f = tt
before_fails front stop.Ended r f = ap (with_before front) f
before_fails front (stop.Unexpected at) r f = ap (with_before front) f
before_fails front (stop.Deep at) r f = ap (with_before front) f

-- what fails first fails the whole
pub first_fails : {A B : Type 0} (s : Stop) (r : Result A Fault) (f : A → Result B Fault) → Fails s r → Fails s (r >>= f)
first_fails stop.Memory r f e = tt
first_fails stop.Ended r f e = ap (λ q. q >>= f) e
first_fails (stop.Unexpected at) r f e = ap (λ q. q >>= f) e
first_fails (stop.Deep at) r f e = ap (λ q. q >>= f) e

-- ---- identifiers and `::`
ident_then : (o : Option Ident) (ws : List Word) → ident_before o (more_idents_at ws) ≡ (taken o ws >>= λ x. with_before (x.0 ∷ []) (more_idents_at x.1))
ident_then None ws = refl
ident_then (Some x) ws = refl

-- behind `::` identifiers go on
pub colons_go_on : (s : Span) (ws : List Word) → more_idents_at (sign Colons s ∷ ws) ≡ idents_at ws
unfolding idents_at
colons_go_on s [] = refl
colons_go_on s (v ∷ ws) = ident_then (as_ident v) ws

none_from : (w : Word) (ws : List Word) (o : Option Span) → as_sign Colons w ≡ o → taken o ws ≡ Err wrong → more_idents_at (w ∷ ws) ≡ Ok ([], w ∷ ws)
none_from w [] None e f = ap (λ v. cond (is_some v) (Err wrong) (Ok ([], w ∷ []))) e
none_from w (v ∷ ws) None e f = ap (λ o. cond (is_some o) (ident_before (as_ident v) (more_idents_at ws)) (Ok ([], w ∷ v ∷ ws))) e
none_from w ws (Some s) e f = cc

module _ (start : List Word) (front : List Ident) (ws : List Word) (so_far : with_before front (more_idents_at ws) ≡ idents_at start) where
  turned : (p : Span × List Word) → sign_at Colons ws ≡ Ok p → idents_at start ≡ with_before front (idents_at p.1)
  turned p e = sym so_far ∙ ap (λ v. with_before front (more_idents_at v)) (sign-is Colons ws p e) ∙ ap (with_before front) (colons_go_on p.0 p.1)

  pub idents_turn : (p : Span × List Word) (q : Ident × List Word) → sign_at Colons ws ≡ Ok p → ident_at p.1 ≡ Ok q → with_before (front ++ q.0 ∷ []) (more_idents_at q.1) ≡ idents_at start
  unfolding idents_at
  idents_turn p q e f =
      before_before front (q.0 ∷ []) (more_idents_at q.1)
      ∙ ap (λ (r : Read Ident). with_before front (r >>= λ x. with_before (x.0 ∷ []) (more_idents_at x.1))) (sym f)
      ∙ sym (turned p e)

-- ---- sound
sign_from : (w : Word) (o : Option Span) → as_sign Colons w ≡ o → is_some o ≡ true → (s : Span) × (w ≡ sign Colons s)
sign_from w None is e = cc
sign_from w (Some s) is e = (s, as_sign-is Colons w s is)

one_ident : (w : Word) (x : Ident) (ws : List Word) (xs : List Ident) (rest : List Word) → as_ident w ≡ Some x → ◌≡◌ {A = Read (List Ident)} (Ok ([], ws)) (Ok (xs, rest)) → IsPath (w ∷ ws) (x ∷ xs) rest
one_ident w x ws xs rest is e = along (λ v u. IsPath (w ∷ ws) (x ∷ v) u) ([], ws) (xs, rest) e (last_ident is)

-- what follows `::` goes on, and anything else ends it
colons_or_end : (v : Word) (ws : List Word) → more_idents_at (v ∷ ws) ≡ cond (is_some (as_sign Colons v)) (idents_at ws) (Ok ([], v ∷ ws))
unfolding idents_at
colons_or_end v [] = refl
colons_or_end v (u ∷ ws) = ap (λ q. cond (is_some (as_sign Colons v)) q (Ok ([], v ∷ u ∷ ws))) (ident_then (as_ident u) ws)

abbrev Sound : List Word → Type 0
Sound ws = (xs : List Ident) (rest : List Word) → idents_at ws ≡ Ok (xs, rest) → IsPath ws xs rest

sound_from : (w : Word) (x : Ident) (v : Word) (ws : List Word) (xs : List Ident) (rest : List Word) (b : Bool) → Sound ws → is_some (as_sign Colons v) ≡ b → as_ident w ≡ Some x
    → cond b (idents_at ws) (Ok ([], v ∷ ws)) ≡ Ok (xs, rest) → IsPath (w ∷ v ∷ ws) (x ∷ xs) rest
sound_from w x v ws xs rest false others is e h = one_ident w x (v ∷ ws) xs rest e h
sound_from w x v ws xs rest true others is e h =
    let s = sign_from v (as_sign Colons v) refl is in
    subst (λ u. IsPath (w ∷ u ∷ ws) (x ∷ xs) rest) (sym s.1) (more_idents e (others xs rest h))

more_sound : (w : Word) (x : Ident) (ws : List Word) (xs : List Ident) (rest : List Word) → ((v : Word) (us : List Word) → ws ≡ v ∷ us → Sound us) → as_ident w ≡ Some x → more_idents_at ws ≡ Ok (xs, rest) → IsPath (w ∷ ws) (x ∷ xs) rest
more_sound w x [] xs rest others is e = one_ident w x [] xs rest is e
more_sound w x (v ∷ ws) xs rest others is e = sound_from w x v ws xs rest (is_some (as_sign Colons v)) (others v ws refl) refl is (sym (colons_or_end v ws) ∙ e)

abbrev Others : List Word → Type 0
Others ws = (v : Word) (us : List Word) → ws ≡ v ∷ us → Sound us

first_from : (w : Word) (ws : List Word) (xs : List Ident) (rest : List Word) (o : Option Ident) → Others ws → as_ident w ≡ o → (taken o ws >>= λ x. with_before (x.0 ∷ []) (more_idents_at x.1)) ≡ Ok (xs, rest) → IsPath (w ∷ ws) xs rest
first_from w ws xs rest None others is e = cc
first_from w ws xs rest (Some x) others is e =
    let q = bind_ok (more_idents_at ws) e in
    along (λ v u. IsPath (w ∷ ws) v u) (x ∷ q.0.0, q.0.1) (xs, rest) q.2 (more_sound w x ws q.0.0 q.0.1 others is q.1)

first_sound : (w : Word) (ws : List Word) (xs : List Ident) (rest : List Word) → Others ws → idents_at (w ∷ ws) ≡ Ok (xs, rest) → IsPath (w ∷ ws) xs rest
unfolding idents_at
first_sound w ws xs rest others e = first_from w ws xs rest (as_ident w) others refl e

tail_is : {w v : Word} {ws us : List Word} → ◌≡◌ {A = List Word} (w ∷ ws) (v ∷ us) → ws ≡ us
tail_is e = cc

nothing_sound : Sound []
unfolding idents_at
nothing_sound xs rest e = cc

pub idents_sound : (ws : List Word) → Sound ws
idents_sound [] xs rest e = nothing_sound xs rest e
idents_sound (w ∷ []) xs rest e = first_sound w [] xs rest (λ v us e. cc) e
idents_sound (w ∷ v ∷ ws) xs rest e = first_sound w (v ∷ ws) xs rest (λ u us e. subst Sound (tail_is e) (idents_sound ws)) e

-- ---- no less
pub idents_complete : {ws rest : List Word} {xs : List Ident} → IsPath ws xs rest → more_idents_at rest ≡ Ok ([], rest) → idents_at ws ≡ Ok (xs, rest)
unfolding idents_at
idents_complete (last_ident {w = w} {x = x} {rest = rest} e) ends = ap (λ o. taken o rest >>= λ x. with_before (x.0 ∷ []) (more_idents_at x.1)) e ∙ before_nothing (x ∷ []) (more_idents_at rest) rest ends
idents_complete (more_idents {w = w} {x = x} {s = s} {ws = ws} {rest = rest} {xs = xs} e r) ends =
    ap (λ o. taken o (sign Colons s ∷ ws) >>= λ x. with_before (x.0 ∷ []) (more_idents_at x.1)) e
    ∙ ap (with_before (x ∷ [])) (colons_go_on s ws ∙ idents_complete r ends)

-- ---- never too deep
pub before_deep : {A : Type 0} (front : List A) (r : Read (List A)) (at : Span) → with_before front r ≡ Err (deep at) → r ≡ Err (deep at)
before_deep front (Ok p) at e = cc
before_deep front (Err f) at e = cc

ident_before_deep : (o : Option Ident) (r : Read (List Ident)) (at : Span) → ident_before o r ≡ Err (deep at) → r ≡ Err (deep at)
ident_before_deep None r at e = cc
ident_before_deep (Some x) r at e = before_deep (x ∷ []) r at e

cond_deep : (b : Bool) (r q : Read (List Ident)) (at : Span) → cond b r q ≡ Err (deep at) → (r ≡ Err (deep at)) ⊎ (q ≡ Err (deep at))
cond_deep true r q at e = inl e
cond_deep false r q at e = inr e

more_shallow : (ws : List Word) (at : Span) → more_idents_at ws ≡ Err (deep at) → ⊥
more_shallow [] at e = cc
more_shallow (w ∷ []) at e = elim (cond_deep (is_some (as_sign Colons w)) (Err wrong) (Ok ([], w ∷ [])) at e) [
  | inl h ↦ cc
  | inr h ↦ cc
]
more_shallow (w ∷ v ∷ ws) at e = elim (cond_deep (is_some (as_sign Colons w)) (ident_before (as_ident v) (more_idents_at ws)) (Ok ([], w ∷ v ∷ ws)) at e) [
  | inl h ↦ more_shallow ws at (ident_before_deep (as_ident v) (more_idents_at ws) at h)
  | inr h ↦ cc
]

pub idents_shallow : (ws : List Word) (at : Span) → idents_at ws ≡ Err (deep at) → ⊥
unfolding idents_at
idents_shallow [] at e = cc
idents_shallow (w ∷ ws) at e = elim (bind_err (ident_at (w ∷ ws)) e) [
  | inl h ↦ first_shallow as_ident (w ∷ ws) at h
  | inr h ↦ more_shallow h.0.1 at (before_deep (h.0.0 ∷ []) (more_idents_at h.0.1) at h.2)
]

-- a path is its identifiers
pub path_given : (ws : List Word) (xs : List Ident) (rest : List Word) (path : WrittenPath) → idents_at ws ≡ Ok (xs, rest) → path ≡ path_item xs → path_at ws ≡ Ok (path, rest)
unfolding path_at
path_given ws xs rest path e is = ap (λ (r : Read (List Ident)). r >>= λ xs. Ok (path_item xs.0, xs.1)) e ∙ ap (λ v. Ok (v, rest)) (sym is)

pub path_fails : (s : Stop) (ws : List Word) → Fails s (idents_at ws) → Fails s (path_at ws)
unfolding path_at
path_fails s ws f = first_fails s (idents_at ws) (λ xs. Ok (path_item xs.0, xs.1)) f

pub path_sound : (ws : List Word) (path : WrittenPath) (rest : List Word) → path_at ws ≡ Ok (path, rest) → (xs : List Ident) × (path ≡ path_item xs) × IsPath ws xs rest
unfolding path_at
path_sound ws path rest e =
    let xs = bind_ok (idents_at ws) e in
    along (λ v u. (ys : List Ident) × (v ≡ path_item ys) × IsPath ws ys u) (path_item xs.0.0, xs.0.1) (path, rest) xs.2 (xs.0.0, refl, idents_sound ws xs.0.0 xs.0.1 xs.1)

pub path_shallow : (ws : List Word) (at : Span) → path_at ws ≡ Err (deep at) → ⊥
unfolding path_at
path_shallow ws at e = elim (bind_err (idents_at ws) e) [
  | inl h ↦ idents_shallow ws at h
  | inr h ↦ cc
]
