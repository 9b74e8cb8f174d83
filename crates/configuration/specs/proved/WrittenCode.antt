-- How the logic stores a written type, so that a model may hold one.
use Rattle.std.proofs.Common.{◌≡◌, refl, ap}
use Rattle.std.specs.Coded.{Coded, coded_bool}
use base.Stored.{Gv, gnil, gnum, gcons}
use Rattle.texts.specs.contracts.span.Span as spans
use Rattle.tokens.specs.contracts.token.Bracket as brackets
use Rattle.tokens.specs.contracts.token.Token as tokens
use Rattle.tokens.specs.Trees.{Tree, token, group, Trees, end, ◌▸◌}
use Rattle.written_types.specs.contracts.written.Ident as idents
use Rattle.written_types.specs.Written.{Written, path, reference, tuple, slice, array, trait_object, Writtens, no_types, more_types, WrittenPath, path_of, Segments, no_segments, more_segments, Segment, plain, applied, Arguments, no_arguments, more_arguments, Argument, lifetime_argument, constant_argument, type_argument}

-- ---- token trees

abbrev mutual
  pub tree_code : Tree → Gv
  tree_code (token t) = gcons (gnum 0) (tokens.the_row.coded.code t)
  tree_code (group b ts s) = gcons (gnum 1) (gcons (brackets.the_row.coded.code b) (gcons (trees_code ts) (spans.the_row.coded.code s)))

  pub trees_code : Trees → Gv
  trees_code end = gnil
  trees_code (t ▸ ts) = gcons (tree_code t) (trees_code ts)

mutual
  pub tree_inj : (x y : Tree) → tree_code x ≡ tree_code y → x ≡ y
  tree_inj (token t) (token u) p = ap token (tokens.the_row.coded.inj t u (cc))
  tree_inj (group b ts s) (group c us r) p = λ i. group (brackets.the_row.coded.inj b c (cc) i) (trees_inj ts us (cc) i) (spans.the_row.coded.inj s r (cc) i)
  tree_inj _ _ p = cc

  pub trees_inj : (x y : Trees) → trees_code x ≡ trees_code y → x ≡ y
  trees_inj end end p = refl
  trees_inj (t ▸ ts) (u ▸ us) p = λ i. tree_inj t u (cc) i ▸ trees_inj ts us (cc) i
  trees_inj _ _ p = cc

-- ---- types

abbrev mutual
  pub written_code : Written → Gv
  written_code (path p) = gcons (gnum 0) (path_code p)
  written_code (reference t) = gcons (gnum 1) (written_code t)
  written_code (tuple ts s) = gcons (gnum 2) (gcons (writtens_code ts) (spans.the_row.coded.code s))
  written_code (slice t s) = gcons (gnum 3) (gcons (written_code t) (spans.the_row.coded.code s))
  written_code (array t s) = gcons (gnum 4) (gcons (written_code t) (spans.the_row.coded.code s))
  written_code (trait_object p s) = gcons (gnum 5) (gcons (path_code p) (spans.the_row.coded.code s))

  pub writtens_code : Writtens → Gv
  writtens_code no_types = gnil
  writtens_code (more_types t ts) = gcons (written_code t) (writtens_code ts)

  pub path_code : WrittenPath → Gv
  path_code (path_of leading ss s) = gcons (coded_bool.code leading) (gcons (segments_code ss) (spans.the_row.coded.code s))

  pub segments_code : Segments → Gv
  segments_code no_segments = gnil
  segments_code (more_segments s ss) = gcons (segment_code s) (segments_code ss)

  pub segment_code : Segment → Gv
  segment_code (plain x) = gcons (gnum 0) (idents.the_row.coded.code x)
  segment_code (applied x args) = gcons (gnum 1) (gcons (idents.the_row.coded.code x) (arguments_code args))

  pub arguments_code : Arguments → Gv
  arguments_code no_arguments = gnil
  arguments_code (more_arguments a rest) = gcons (argument_code a) (arguments_code rest)

  pub argument_code : Argument → Gv
  argument_code (lifetime_argument x) = gcons (gnum 0) (idents.the_row.coded.code x)
  argument_code (constant_argument ts) = gcons (gnum 1) (trees_code ts)
  argument_code (type_argument t) = gcons (gnum 2) (written_code t)

mutual
  pub written_inj : (x y : Written) → written_code x ≡ written_code y → x ≡ y
  written_inj (path p) (path q) e = ap path (path_inj p q (cc))
  written_inj (reference t) (reference u) e = ap reference (written_inj t u (cc))
  written_inj (tuple ts s) (tuple us r) e = λ i. tuple (writtens_inj ts us (cc) i) (spans.the_row.coded.inj s r (cc) i)
  written_inj (slice t s) (slice u r) e = λ i. slice (written_inj t u (cc) i) (spans.the_row.coded.inj s r (cc) i)
  written_inj (array t s) (array u r) e = λ i. array (written_inj t u (cc) i) (spans.the_row.coded.inj s r (cc) i)
  written_inj (trait_object p s) (trait_object q r) e = λ i. trait_object (path_inj p q (cc) i) (spans.the_row.coded.inj s r (cc) i)
  written_inj _ _ e = cc

  pub writtens_inj : (x y : Writtens) → writtens_code x ≡ writtens_code y → x ≡ y
  writtens_inj no_types no_types e = refl
  writtens_inj (more_types t ts) (more_types u us) e = λ i. more_types (written_inj t u (cc) i) (writtens_inj ts us (cc) i)
  writtens_inj _ _ e = cc

  pub path_inj : (x y : WrittenPath) → path_code x ≡ path_code y → x ≡ y
  path_inj (path_of leading ss s) (path_of rooted us r) e = λ i. path_of (coded_bool.inj leading rooted (cc) i) (segments_inj ss us (cc) i) (spans.the_row.coded.inj s r (cc) i)

  pub segments_inj : (x y : Segments) → segments_code x ≡ segments_code y → x ≡ y
  segments_inj no_segments no_segments e = refl
  segments_inj (more_segments s ss) (more_segments u us) e = λ i. more_segments (segment_inj s u (cc) i) (segments_inj ss us (cc) i)
  segments_inj _ _ e = cc

  pub segment_inj : (x y : Segment) → segment_code x ≡ segment_code y → x ≡ y
  segment_inj (plain x) (plain y) e = ap plain (idents.the_row.coded.inj x y (cc))
  segment_inj (applied x args) (applied y others) e = λ i. applied (idents.the_row.coded.inj x y (cc) i) (arguments_inj args others (cc) i)
  segment_inj _ _ e = cc

  pub arguments_inj : (x y : Arguments) → arguments_code x ≡ arguments_code y → x ≡ y
  arguments_inj no_arguments no_arguments e = refl
  arguments_inj (more_arguments a rest) (more_arguments b others) e = λ i. more_arguments (argument_inj a b (cc) i) (arguments_inj rest others (cc) i)
  arguments_inj _ _ e = cc

  pub argument_inj : (x y : Argument) → argument_code x ≡ argument_code y → x ≡ y
  argument_inj (lifetime_argument x) (lifetime_argument y) e = ap lifetime_argument (idents.the_row.coded.inj x y (cc))
  argument_inj (constant_argument ts) (constant_argument us) e = ap constant_argument (trees_inj ts us (cc))
  argument_inj (type_argument t) (type_argument u) e = ap type_argument (written_inj t u (cc))
  argument_inj _ _ e = cc

abbrev pub coded_written : Coded Written
coded_written = record { code = written_code; inj = written_inj }
