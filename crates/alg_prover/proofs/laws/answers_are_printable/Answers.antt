use Rattle.alg_prover.proofs.Printed.{answers_are_printable}
use Rattle.alg_prover.proofs.laws.answers_are_printable.Goals as goal

pub returns : goal.returns
returns c =
    answers_are_printable record {
      over = c.no_is_over_the_table.ensures;
      range = c.no_is_within_range.ensures;
      monomial = c.no_is_a_monomial.ensures;
      field_over = c.field_no_is_over_the_table.ensures;
      field_range = c.field_no_is_within_range.ensures;
      field_monomial = c.field_no_is_a_monomial.ensures;
      field_terms = c.field_terms_may_stand.ensures;
      proved = c.proved_is_within.ensures;
      sought = c.powers_are_sought.ensures;
    }
