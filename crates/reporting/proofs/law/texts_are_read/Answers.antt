use Rattle.std.proofs.Common.{◌≤◌, ◌<◌, ℕ, length, arith}
use Rattle.reporting.specs.Bytes.{most_bytes}
use Rattle.reporting.proofs.law.texts_are_read.Goals as goal

long_and_short : (n : ℕ) → most_bytes < n → n ≤ most_bytes → ⊥
long_and_short n long short = omega arith

pub returns-clause-short : goal.returns-clause-short
returns-clause-short c = λ bytes e text long. long_and_short (length bytes) long.0 text.short

pub returns-clause-utf8 : goal.returns-clause-utf8
returns-clause-utf8 c = λ bytes e text broken. broken.1.1.no_text text.utf8
