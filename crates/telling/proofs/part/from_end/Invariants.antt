use Rattle.std.proofs.Common.{◌≡◌, ◌-◌, ◌++◌, length, reverse}
use denote.Text.{Utf8}
use denote.Shadow.{shadow}
use Rattle.std.specs.Str.{chars}
use Rattle.telling.specs.Places.{line_front}
use Rattle.telling.proofs.part.from_end.Given as goal

-- what is taken, and what is still to take of the rest, are what is to take of all
abbrev pub invariant-characters : goal.invariant-characters
invariant-characters l =
    shadow (Utf8 l.rest) × (l.back.items ++ line_front (l.most - length l.back.items) (reverse (chars l.rest)) ≡ line_front l.most (reverse (chars l.text)))

abbrev pub decreases-characters : goal.decreases-characters
decreases-characters l = l.most - length l.back.items
