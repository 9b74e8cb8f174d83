-- The scanner finds the longest piece.
use Rattle.std.proofs.Common.{◌≡◌, ℕ, ◌<◌, ◌≤◌, ◌⊎◌, inl, inr, List, [], ◌∷◌, ◌++◌, length, refl, ap, sym, subst, ◌∙◌, arith, cond, Bool, true, false, ◌&&◌, ◌+◌, ◌==◌, Option, Some, None, length-append, codes}
use Rattle.std.proofs.lemmas.Bool.{eqb-true, and_parts, or_parts}
use Rattle.std.specs.List.{list_all, list_any}
use Rattle.literals.specs.Literals.{IsLiteral, is_digit, is_quote, begins_literal}
use Rattle.literals.specs.Scanning.{literal_at, skip}
use Rattle.literals.proofs.Laws.{literal_sound, literal_reads, literal_begins, either, skip_split, skip_short, skip_least}
use Rattle.tokens.specs.declared.token.TokenKind.TheVariants.{Ident, Lifetime, Literal, Punct, Doc}
use Rattle.lexing.specs.declared.piece.PieceKind.{PieceKind}
use Rattle.lexing.specs.declared.piece.PieceKind.TheVariants.{Space, Comment, Token, Open, Close}
use Rattle.lexing.specs.declared.scan.Class.{Class}
use Rattle.lexing.specs.declared.scan.Class.TheVariants.{White, Slash, Colon, Sign, Quote, NameStart, Opens, Closes, Other}
use Rattle.lexing.specs.Pieces.{quote, star, slash, is_white, is_in_line, is_sign, is_doc, IsIdentifier, IsComment, IsPiece, may_end, IsLongest}
use Rattle.lexing.specs.Scanning.{class_of, identifier_at, closing_at, comment_kind, of_kind, comment_at, or_sign, after_colon, class_at, literal_or, plain_piece_at, longest_at, if_ended, piece_at}
use Rattle.lexing.proofs.TextLaws.{same_parts}
use Rattle.lexing.proofs.CommentLaws.{line_front, block_front, block_short, block_long, block_reads, line_reads, doc_in_block}
use Rattle.lexing.proofs.Classes.{Begins, class_begins, white_class, name_class, slash_class, colon_class, quote_class, sign_class, opening_class, closing_class, white_no_literal, sign_no_literal, opening_no_literal, closing_no_literal}
use Rattle.lexing.proofs.WordLaws.{identifier_sound, identifier_reads, identifier_quoteless, identifier_starts, identifier_digitless, no_identifier}
use Rattle.lexing.proofs.LiteralLaws.{no_literal_at, literal_longer}

-- ---- what is found is a piece
-- what stands before the rest is a piece
abbrev Front : List ℕ → PieceKind → List ℕ → Type 0
Front text k rest = (front : List ℕ) × (text ≡ front ++ rest) × IsPiece k front

along : (P : PieceKind → List ℕ → Type 0) (j k : PieceKind) (a b : List ℕ) → ◌≡◌ {A = Option (PieceKind × List ℕ)} (Some (j, a)) (Some (k, b)) → P j a → P k b
along P j k a b e h =
    let pairs : ◌≡◌ {A = PieceKind × List ℕ} (j, a) (k, b) = cc in
    subst (λ v. P v b) (ap (λ p. p.0) pairs) (subst (λ w. P j w) (ap (λ p. p.1) pairs) h)

of_kind_front : (P : PieceKind → List ℕ → Type 0) (j k : PieceKind) (found : Option (List ℕ)) (rest : List ℕ) → of_kind j found ≡ Some (k, rest) → ((r : List ℕ) → found ≡ Some r → P j r) → P k rest
of_kind_front P j k None rest e f = cc
of_kind_front P j k (Some r) rest e f = along P j k r rest e (f r refl)

-- a comment, with at least its first two characters
abbrev Comments : List ℕ → PieceKind → List ℕ → Type 0
Comments cs k rest = Front (slash ∷ cs) k rest × (length rest < length cs)

comment_sound : (cs : List ℕ) (k : PieceKind) (rest : List ℕ) → comment_at cs ≡ Some (k, rest) → Comments cs k rest
comment_sound [] k rest e = cc
comment_sound (d ∷ body) k rest e =
    elim (either (d == slash) e) [
      | inl h ↦
          let first : d ≡ slash = eqb-true d slash h.0 in
          let shorter : length (skip is_in_line body) < length (d ∷ body) = omega (arith, skip_short is_in_line body) in
          along (Comments (d ∷ body)) (comment_kind (is_doc slash body)) k (skip is_in_line body) rest h.1
          (subst (λ v. Front (slash ∷ v ∷ body) (comment_kind (is_doc slash body)) (skip is_in_line body)) (sym first) (line_front body), shorter)
      | inr h ↦
          elim (either (d == star) h.1) [
            | inl k2 ↦
                let first : d ≡ star = eqb-true d star k2.0 in
                of_kind_front (Comments (d ∷ body)) (comment_kind (is_doc star body)) k (closing_at 1 body) rest k2.1
                (λ r f.
                let shorter : length r < length (d ∷ body) = omega (arith, block_short body r f) in
                (subst (λ v. Front (slash ∷ v ∷ body) (comment_kind (is_doc star body)) r) (sym first) (block_front body r f), shorter))
            | inr k2 ↦ cc
          ]
    ]

slash_sound : (cs : List ℕ) (found : Option (PieceKind × List ℕ)) (k : PieceKind) (rest : List ℕ) → comment_at cs ≡ found → or_sign cs found ≡ Some (k, rest) → Front (slash ∷ cs) k rest
slash_sound cs None k rest f e = along (Front (slash ∷ cs)) (Token Punct) k cs rest e (slash ∷ [], refl, inl (refl, refl))
slash_sound cs (Some p) k rest f e = (comment_sound cs k rest (f ∙ e)).0

colon_case : (d : ℕ) (ds : List ℕ) (b : Bool) → (d == 58) ≡ b → Front (58 ∷ d ∷ ds) (Token Punct) (cond b ds (d ∷ ds))
colon_case d ds true e = (58 ∷ 58 ∷ [], ap (λ v. 58 ∷ v ∷ ds) (eqb-true d 58 e), inr refl)
colon_case d ds false e = (58 ∷ [], refl, inl (refl, refl))

colon_sound : (cs : List ℕ) → Front (58 ∷ cs) (Token Punct) (after_colon cs)
colon_sound [] = (58 ∷ [], refl, inl (refl, refl))
colon_sound (d ∷ ds) = colon_case d ds (d == 58) refl

ident_piece : (front : List ℕ) → IsIdentifier front → IsPiece (Token Ident) front
ident_piece [] h = no_identifier h
ident_piece (c ∷ cs) h = h

class_sound : (c : ℕ) (cs : List ℕ) (x : Class) → Begins x c → (k : PieceKind) (rest : List ℕ) → class_at c cs x ≡ Some (k, rest) → Front (c ∷ cs) k rest
class_sound c cs White f k rest e =
    let run = skip_split is_white cs in
    along (Front (c ∷ cs)) Space k (skip is_white cs) rest e (c ∷ run.0, ap (λ v. c ∷ v) run.1, ap (λ v. v && list_all is_white run.0) f ∙ run.2)
class_sound c cs Slash f k rest e = subst (λ v. Front (v ∷ cs) k rest) (sym f) (slash_sound cs (comment_at cs) k rest refl e)
class_sound c cs Colon f k rest e = subst (λ v. Front (v ∷ cs) k rest) (sym f) (along (Front (58 ∷ cs)) (Token Punct) k (after_colon cs) rest e (colon_sound cs))
class_sound c cs Sign f k rest e = along (Front (c ∷ cs)) (Token Punct) k cs rest e (c ∷ [], refl, inl (f, refl))
class_sound c cs Quote f k rest e =
    of_kind_front (Front (c ∷ cs)) (Token Lifetime) k (identifier_at cs) rest e (λ r g. let word = identifier_sound cs r g in (c ∷ word.0, ap (λ v. c ∷ v) word.1, (f, word.2)))
class_sound c cs NameStart f k rest e =
    of_kind_front (Front (c ∷ cs)) (Token Ident) k (identifier_at (c ∷ cs)) rest e (λ r g. let word = identifier_sound (c ∷ cs) r g in (word.0, word.1, ident_piece word.0 word.2))
class_sound c cs (Opens b) f k rest e = along (Front (c ∷ cs)) (Open b) k cs rest e (c ∷ [], refl, (f, refl))
class_sound c cs (Closes b) f k rest e = along (Front (c ∷ cs)) (Close b) k cs rest e (c ∷ [], refl, (f, refl))
class_sound c cs Other f k rest e = cc

plain_sound : (text : List ℕ) (k : PieceKind) (rest : List ℕ) → plain_piece_at text ≡ Some (k, rest) → Front text k rest
plain_sound [] k rest e = cc
plain_sound (c ∷ cs) k rest e = class_sound c cs (class_of c) (class_begins c) k rest e

literal_piece : (front : List ℕ) → IsLiteral front → IsPiece (Token Literal) front
literal_piece [] h = literal_begins [] h
literal_piece (c ∷ cs) h = h

literal_case : (text : List ℕ) (found : Option (List ℕ)) (k : PieceKind) (rest : List ℕ) → literal_at text ≡ found → literal_or found (plain_piece_at text) ≡ Some (k, rest) → Front text k rest
literal_case text None k rest f e = plain_sound text k rest e
literal_case text (Some r) k rest f e = let sound = literal_sound text r f in along (Front text) (Token Literal) k r rest e (sound.0, sound.1, literal_piece sound.0 sound.2)

longest_sound : (text : List ℕ) (k : PieceKind) (rest : List ℕ) → longest_at text ≡ Some (k, rest) → Front text k rest
longest_sound text k rest e = literal_case text (literal_at text) k rest refl e

-- ---- whatever piece begins a text, the scanner reads more of it, or as much and the same kind
abbrev Reads : List ℕ → List ℕ → PieceKind → Type 0
Reads text less j = (k : PieceKind) × (rest : List ℕ) × (longest_at text ≡ Some (k, rest)) × (length rest ≤ length less) × ((length rest < length less) ⊎ (k ≡ j))

-- a piece that is no literal is read by its class
by_class : (c : ℕ) (cs rest : List ℕ) (x : Class) (k : PieceKind) → literal_at (c ∷ cs) ≡ None → class_of c ≡ x → class_at c cs x ≡ Some (k, rest) → longest_at (c ∷ cs) ≡ Some (k, rest)
by_class c cs rest x k l f e = ap (λ v. literal_or v (plain_piece_at (c ∷ cs))) l ∙ ap (class_at c cs) f ∙ e

-- a piece of one character
one_reads : (c : ℕ) (cs less : List ℕ) (x : Class) (k : PieceKind) → begins_literal c ≡ false → class_of c ≡ x → class_at c less x ≡ Some (k, less) → cs ≡ [] → Reads ((c ∷ cs) ++ less) less k
one_reads c cs less x k l f g e = subst (λ v. Reads ((c ∷ v) ++ less) less k) (sym e) (k, less, by_class c less less x k (no_literal_at c less l) f g, omega arith, inr refl)

white_reads : (c : ℕ) (cs less : List ℕ) → list_all is_white (c ∷ cs) ≡ true → Reads ((c ∷ cs) ++ less) less Space
white_reads c cs less h =
    let both = and_parts (is_white c) (list_all is_white cs) h in
    (Space, skip is_white (cs ++ less), by_class c (cs ++ less) (skip is_white (cs ++ less)) White Space (no_literal_at c (cs ++ less) (white_no_literal c both.0)) (white_class c both.0) refl, skip_least is_white cs less both.1, inr refl)

same_or_longer : (P : Type 0) (a b : Bool) → P ⊎ (a ≡ b) → P ⊎ (comment_kind a ≡ comment_kind b)
same_or_longer P a b (inl h) = inl h
same_or_longer P a b (inr h) = inr (ap comment_kind h)

comment_reads : (doc : Bool) (long less : List ℕ) → IsComment doc long → Reads (long ++ less) less (comment_kind doc)
comment_reads doc long less (inl p) =
    let body = p.0 in
    subst (λ v. Reads (v ++ less) less (comment_kind doc)) (sym p.1) (
      comment_kind (is_doc slash (body ++ less)),
      skip is_in_line (body ++ less),
      by_class slash (slash ∷ (body ++ less)) (skip is_in_line (body ++ less)) Slash (comment_kind (is_doc slash (body ++ less))) (no_literal_at slash (slash ∷ (body ++ less)) refl) slash_class refl,
      skip_least is_in_line body less p.2,
      same_or_longer (length (skip is_in_line (body ++ less)) < length less) (is_doc slash (body ++ less)) doc (line_reads doc body less p.2 p.3),
    )
comment_reads doc long less (inr p) =
    let body = p.0 in
    let kind = comment_kind (is_doc star (body ++ less)) in
    let long_enough : 2 ≤ length body = block_long body p.2 in
    subst (λ v. Reads (v ++ less) less (comment_kind doc)) (sym p.1) (
      kind,
      less,
      by_class slash (star ∷ (body ++ less)) less Slash kind (no_literal_at slash (star ∷ (body ++ less)) refl) slash_class (ap (λ v. or_sign (star ∷ (body ++ less)) (of_kind kind v)) (block_reads body less p.2)),
      omega arith,
      inr (ap comment_kind (doc_in_block body less long_enough ∙ p.3)),
    )

-- a word, which a literal may outdo
word_case : (c : ℕ) (cs less : List ℕ) (x : Class) (k : PieceKind) → is_digit c ≡ false → list_any is_quote cs ≡ false → class_of c ≡ x
    → (rest : List ℕ) → class_at c (cs ++ less) x ≡ Some (k, rest) → length rest ≤ length less → (found : Option (List ℕ)) → literal_at ((c ∷ cs) ++ less) ≡ found → Reads ((c ∷ cs) ++ less) less k
word_case c cs less x k d q f rest e l None n = (k, rest, by_class c (cs ++ less) rest x k n f e, l, inr refl)
word_case c cs less x k d q f rest e l (Some r) n =
    let shorter = literal_longer c cs less r d q n in
    (Token Literal, r, ap (λ v. literal_or v (plain_piece_at ((c ∷ cs) ++ less))) n, omega arith, inl shorter)

ident_reads : (c : ℕ) (cs less : List ℕ) → IsIdentifier (c ∷ cs) → Reads ((c ∷ cs) ++ less) less (Token Ident)
ident_reads c cs less h =
    let word = identifier_reads (c ∷ cs) less h in
    let quoteless = (or_parts (is_quote c) (list_any is_quote cs) (identifier_quoteless (c ∷ cs) h)).1 in
    word_case c cs less NameStart (Token Ident) (identifier_digitless c cs h) quoteless (name_class c (identifier_starts c cs h)) word.0 (ap (of_kind (Token Ident)) word.1) word.2 (literal_at ((c ∷ cs) ++ less)) refl

lifetime_reads : (c : ℕ) (cs less : List ℕ) → c ≡ quote → IsIdentifier cs → Reads ((c ∷ cs) ++ less) less (Token Lifetime)
lifetime_reads c cs less e h =
    let word = identifier_reads cs less h in
    word_case c cs less Quote (Token Lifetime) (ap is_digit e) (identifier_quoteless cs h) (ap class_of e ∙ quote_class) word.0 (ap (of_kind (Token Lifetime)) word.1) word.2 (literal_at ((c ∷ cs) ++ less)) refl

literals_read : (long less : List ℕ) → IsLiteral long → Reads (long ++ less) less (Token Literal)
literals_read long less h =
    let found = literal_reads long less h in
    (Token Literal, found.0, ap (λ v. literal_or v (plain_piece_at (long ++ less))) found.1, found.2, inr refl)

slash_reads : (less : List ℕ) (found : Option (PieceKind × List ℕ)) → comment_at less ≡ found → Reads (slash ∷ less) less (Token Punct)
slash_reads less None f = (Token Punct, less, by_class slash less less Slash (Token Punct) (no_literal_at slash less refl) slash_class (ap (or_sign less) f), omega arith, inr refl)
slash_reads less (Some p) f =
    let shorter = (comment_sound less p.0 p.1 f).1 in
    (p.0, p.1, by_class slash less p.1 Slash p.0 (no_literal_at slash less refl) slash_class (ap (or_sign less) f), omega arith, inl shorter)

shorter_of : (b : Bool) (xs ys : List ℕ) → length xs ≤ length ys → length (cond b xs ys) ≤ length ys
shorter_of true xs ys h = h
shorter_of false xs ys h = omega arith

colon_short : (cs : List ℕ) → length (after_colon cs) ≤ length cs
colon_short [] = omega arith
colon_short (d ∷ ds) = shorter_of (d == 58) ds (d ∷ ds) (omega arith)

colon_reads : (less : List ℕ) → Reads (58 ∷ less) less (Token Punct)
colon_reads less = (Token Punct, after_colon less, by_class 58 less (after_colon less) Colon (Token Punct) (no_literal_at 58 less refl) colon_class refl, colon_short less, inr refl)

sign_reads : (c : ℕ) (less : List ℕ) → is_sign c ≡ true → Reads (c ∷ less) less (Token Punct)
sign_reads c less h =
    elim (sign_class c h) [
      | inl e ↦ subst (λ v. Reads (v ∷ less) less (Token Punct)) (sym e) (slash_reads less (comment_at less) refl)
      | inr m ↦
          elim m [
            | inl e ↦ subst (λ v. Reads (v ∷ less) less (Token Punct)) (sym e) (colon_reads less)
            | inr e ↦ one_reads c [] less Sign (Token Punct) (sign_no_literal c h) e refl refl
          ]
    ]

colons_read : (long less : List ℕ) → long ≡ codes "::" → Reads (long ++ less) less (Token Punct)
colons_read long less e =
    subst (λ v. Reads (v ++ less) less (Token Punct)) (sym e) (Token Punct, less, by_class 58 (58 ∷ less) less Colon (Token Punct) (no_literal_at 58 (58 ∷ less) refl) colon_class refl, omega arith, inr refl)

piece_reads : (j : PieceKind) (long less : List ℕ) → IsPiece j long → Reads (long ++ less) less j
piece_reads j [] less p = absurd p
piece_reads Space (c ∷ cs) less p = white_reads c cs less p
piece_reads Comment (c ∷ cs) less p = comment_reads false (c ∷ cs) less p
piece_reads (Token Doc) (c ∷ cs) less p = comment_reads true (c ∷ cs) less p
piece_reads (Token Ident) (c ∷ cs) less p = ident_reads c cs less p
piece_reads (Token Lifetime) (c ∷ cs) less p = lifetime_reads c cs less p.0 p.1
piece_reads (Token Literal) (c ∷ cs) less p = literals_read (c ∷ cs) less p
piece_reads (Token Punct) (c ∷ cs) less (inl p) = subst (λ v. Reads ((c ∷ v) ++ less) less (Token Punct)) (sym p.1) (sign_reads c less p.0)
piece_reads (Token Punct) (c ∷ cs) less (inr p) = colons_read (c ∷ cs) less p
piece_reads (Open b) (c ∷ cs) less p = one_reads c cs less (Opens b) (Open b) (ap begins_literal p.0 ∙ opening_no_literal b) (ap class_of p.0 ∙ opening_class b) refl p.1
piece_reads (Close b) (c ∷ cs) less p = one_reads c cs less (Closes b) (Close b) (ap begins_literal p.0 ∙ closing_no_literal b) (ap class_of p.0 ∙ closing_class b) refl p.1

-- ---- what may follow a piece is seen from the whole text as from the piece
some_front : (k : PieceKind) (front : List ℕ) → IsPiece k front → 0 < length front
some_front k [] p = absurd p
some_front k (c ∷ cs) p = omega arith

end_in_text : (k : PieceKind) (front rest : List ℕ) → 0 < length front → may_end k (front ++ rest) rest ≡ may_end k front rest
end_in_text k [] rest l = absurd (omega arith)
end_in_text Space (c ∷ cs) rest l = refl
end_in_text Comment (c ∷ cs) rest l = refl
end_in_text (Token Ident) (c ∷ cs) rest l = refl
end_in_text (Token Lifetime) (c ∷ cs) rest l = refl
end_in_text (Token Literal) (c ∷ cs) rest l = refl
end_in_text (Token Punct) (c ∷ cs) rest l = refl
end_in_text (Token Doc) (c ∷ cs) rest l = refl
end_in_text (Open b) (c ∷ cs) rest l = refl
end_in_text (Close b) (c ∷ cs) rest l = refl

-- ---- the scanner and the definition
longer : (text : List ℕ) (k : PieceKind) (rest front : List ℕ) → longest_at text ≡ Some (k, rest) → text ≡ front ++ rest
    → (j : PieceKind) (long less : List ℕ) → front ++ rest ≡ long ++ less → Reads (long ++ less) less j → length long ≤ length front
longer text k rest front e f j long less same r =
    let here : ◌≡◌ {A = Option (PieceKind × List ℕ)} (Some (k, rest)) (Some (r.0, r.1)) = sym e ∙ ap longest_at (f ∙ same) ∙ r.2 in
    let pairs : ◌≡◌ {A = PieceKind × List ℕ} (k, rest) (r.0, r.1) = cc in
    let rests : rest ≡ r.1 = ap (λ p. p.1) pairs in
    let fewer : length r.1 ≤ length less = r.3 in
    omega (arith, ap length rests, ap length same, length-append front rest, length-append long less)

ended : (text : List ℕ) (found : Option (PieceKind × List ℕ)) (k : PieceKind) (rest : List ℕ) → if_ended text found ≡ Some (k, rest) → (found ≡ Some (k, rest)) × (may_end k text rest ≡ true)
ended text None k rest e = cc
ended text (Some p) k rest e =
    elim (either (may_end p.0 text p.1) e) [
      | inl h ↦
          let pairs : ◌≡◌ {A = PieceKind × List ℕ} p (k, rest) = (let whole = h.1 in cc) in
          (h.1, subst (λ v. may_end v text rest ≡ true) (ap (λ q. q.0) pairs) (subst (λ v. may_end p.0 text v ≡ true) (ap (λ q. q.1) pairs) h.0))
      | inr h ↦ cc
    ]

pub finds_longest : (text : List ℕ) (k : PieceKind) (rest : List ℕ) → piece_at text ≡ Some (k, rest) → (front : List ℕ) × (text ≡ front ++ rest) × IsLongest k front rest
finds_longest text k rest e =
    let both = ended text (longest_at text) k rest e in
    let found = longest_sound text k rest both.0 in
    let ends : may_end k (found.0 ++ rest) rest ≡ true = subst (λ v. may_end k v rest ≡ true) found.1 both.1 in (
      found.0,
      found.1,
      record {
        piece = found.2;
        longest = λ j long less p same. longer text k rest found.0 both.0 found.1 j long less same (piece_reads j long less p);
        ends = sym (end_in_text k found.0 rest (some_front k found.0 found.2)) ∙ ends;
      },
    )

word_found : (text : List ℕ) (found : Option (List ℕ)) (rest : List ℕ) → literal_at text ≡ found → literal_or found (plain_piece_at text) ≡ Some (Token Ident, rest) → literal_at text ≡ None
word_found text None rest f e = f
word_found text (Some r) rest f e =
    let pairs : ◌≡◌ {A = PieceKind × List ℕ} (Token Literal, r) (Token Ident, rest) = cc in
    let kinds : Token Literal ≡ Token Ident = ap (λ p. p.0) pairs in
    cc

-- where an identifier is found, no literal begins
pub word_no_literal : (text : List ℕ) (k : PieceKind) (rest : List ℕ) → piece_at text ≡ Some (k, rest) → k ≡ Token Ident → literal_at text ≡ None
word_no_literal text k rest e f =
    let here = (ended text (longest_at text) k rest e).0 in
    word_found text (literal_at text) rest refl (here ∙ ap (λ v. Some (v, rest)) f)

pub none_begins : (text : List ℕ) (k : PieceKind) (rest : List ℕ) → text ≡ [] → piece_at text ≡ Some (k, rest) → ⊥
none_begins text k rest empty e =
    let found = longest_sound text k rest (ended text (longest_at text) k rest e).0 in
    let some = some_front k found.0 found.2 in
    absurd (omega (arith, ap length empty, ap length found.1, length-append found.0 rest))

same_kind : (m n : ℕ) (j k : PieceKind) → (m < n) ⊎ (j ≡ k) → n ≤ m → j ≡ k
same_kind m n j k (inl h) l = absurd (omega arith)
same_kind m n j k (inr h) l = h

pair_some : (j k : PieceKind) (a b : List ℕ) → j ≡ k → a ≡ b → ◌≡◌ {A = Option (PieceKind × List ℕ)} (Some (j, a)) (Some (k, b))
pair_some j k a b e f = cc

pub longest_found : (k : PieceKind) (front rest : List ℕ) → IsLongest k front rest → piece_at (front ++ rest) ≡ Some (k, rest)
longest_found k front rest l =
    let r = piece_reads k front rest l.piece in
    let other = longest_sound (front ++ rest) r.0 r.1 r.2 in
    let short : length other.0 ≤ length front = l.longest r.0 other.0 r.1 other.2 other.1 in
    let fewer : length r.1 ≤ length rest = r.3 in
    let sizes : length front + length rest ≡ length other.0 + length r.1 = omega (arith, ap length other.1, length-append front rest, length-append other.0 r.1) in
    let parts = same_parts front other.0 rest r.1 other.1 (omega (arith, sizes, short, fewer)) in
    let kinds : r.0 ≡ k = same_kind (length r.1) (length rest) r.0 k r.4 (omega (arith, ap length parts.1)) in
    let here : longest_at (front ++ rest) ≡ Some (k, rest) = r.2 ∙ pair_some r.0 k r.1 rest kinds (sym parts.1) in
    let ends : may_end k (front ++ rest) rest ≡ true = end_in_text k front rest (some_front k front l.piece) ∙ l.ends in
    ap (if_ended (front ++ rest)) here ∙ ap (λ v. cond v (Some (k, rest)) None) ends
