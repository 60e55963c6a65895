-- The laws hold over any code that carries a field, so of sixteen symbols.
-- Assumes nothing.
use Rattle.algebra.specs.FieldOf.{FieldOf}
use Rattle.audit.proofs.Accepted.{accepted}
use Rattle.audit.proofs.Added.{laws_of_sum}
use Rattle.audit.proofs.Agreement.{agree_at_most, differ_at_least}
use Rattle.audit.proofs.Encoding.{sum_is_message, sum_encoded, multiple_is_message, multiple_encoded, sum_with_itself, zero_encoded}
use Rattle.audit.proofs.Nearest.{nearest}
use Rattle.audit.specs.Laws.{Laws, CodewordLaws}
use Rattle.definitions.specs.Field.{Code, sixteen}
use Rattle.instances.proofs.Codes.{sixteen_field}

module _ (C : Code) (F : FieldOf C) where
  codewords : CodewordLaws C
  codewords = record {
    sum_is_message = sum_is_message C F;
    sum_encoded = λ n k f g mf mg. sum_encoded C F k f g mf mg n;
    multiple_is_message = λ k c f hc m. multiple_is_message C F c hc k f m;
    multiple_encoded = λ n k c f hc m. multiple_encoded C F c hc k f m n;
    sum_with_itself = sum_with_itself C F;
    zero_encoded = zero_encoded C F;
    agree_at_most = agree_at_most C F;
    differ_at_least = λ n k f g hk hn mf mg other. differ_at_least C F n k f g hn mf mg hk other;
    nearest = nearest C F;
  }

  pub laws : Laws C
  laws = record { codewords = codewords; sums = laws_of_sum C; accepted = accepted C }

pub laws_of_sixteen : Laws sixteen
laws_of_sixteen = laws sixteen sixteen_field
