-- The column is copied in front of one of zeros.
use Rattle.std.proofs.Common.{rules, arith}
use Rattle.alphabet.specs.Codes.{code_on}
use Rattle.matrix.proofs.Columns.{column_laid}
use Rattle.matrix.proofs.lay_column.Goals as goal

pub returns : goal.returns
returns c =
    column_laid (code_on c.args.alphabet) _ _ _ c.args.i _ _ c.symbols-symbols.ensures (search rules) c.requires.col_value (omega arith)
    c.copy_from_slice.ensures.after
