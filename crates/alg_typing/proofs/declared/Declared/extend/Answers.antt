use Rattle.std.proofs.Common.{◌≡◌, [], length, false, OnOk, sym, ◌∙◌, ap, subst}
use Rattle.alg_terms.specs.declared.file.File.{File}
use Rattle.alg_terms.specs.Valid.{IsValid}
use Rattle.alg_reader.specs.declared.raw.RawKind.{RawKind}
use Rattle.alg_reader.specs.WellRead.{bytes_at, IsWellKind}
use Rattle.alg_typing.specs.Additions.{with_hom, with_vars, with_hyp, with_goal}
use Rattle.alg_typing.specs.NameFaults.{name_faults, new_names}
use Rattle.alg_typing.specs.Resolved.{extended, vars_of}
use Rattle.alg_typing.specs.SortFaults.{sort_faults, equation_sorts, may_divide_by}
use Rattle.alg_typing.proofs.NumbersInRange.{parts_empty}
use Rattle.alg_typing.proofs.Extended.{extended_is_valid}
use Rattle.alg_typing.proofs.Faultless.{no_name_faults, no_sort_faults}
use Rattle.alg_typing.proofs.Small.{small_options, small_sides}
use Rattle.alg_typing.proofs.declared.Declared.extend.Goals as goal

pub add_sort-requires-clause-valid : goal.add_sort-requires-clause-valid
add_sort-requires-clause-valid c =
    let valid = extended_is_valid c.args.self.now c.args.text.now _ c.args.raw.now c.requires.valid c.requires.size
    c.requires.well_read.1 c.requires.room c.requires.faultless in
    subst (λ (k : RawKind). IsValid (extended c.args.self.now c.args.text.now k)) c.in-Sort.is valid

pub add_hom-requires-clause-valid : goal.add_hom-requires-clause-valid
add_hom-requires-clause-valid c =
    let file = c.args.self.now in
    let text = c.args.text.now in
    let valid = extended_is_valid file text _ c.args.raw.now c.requires.valid c.requires.size
    c.requires.well_read.1 c.requires.room c.requires.faultless in
    subst IsValid
    (λ i. with_hom file (record {
      name = bytes_at text c.in-Hom.name;
      from = (sym c.number_at-source.ensures) i;
      to = (sym c.number_at-target.ensures) i;
    }))
    (subst (λ (k : RawKind). IsValid (extended file text k)) c.in-Hom.is valid)

pub add_vars-requires-clause-fresh : goal.add_vars-requires-clause-fresh
add_vars-requires-clause-fresh c =
    let file = c.args.self.now in
    let text = c.args.text.now in
    let all = parts_empty (new_names file text [] c.in-Vars.names) _
    (sym (ap (name_faults file text) c.in-Vars.is) ∙ no_name_faults file text c.args.raw.now c.requires.faultless) in
    ap (new_names file text []) c.items.ensures ∙ all.0

pub add_vars-requires-clause-valid : goal.add_vars-requires-clause-valid
add_vars-requires-clause-valid c =
    let file = c.args.self.now in
    let text = c.args.text.now in
    let valid = extended_is_valid file text _ c.args.raw.now c.requires.valid c.requires.size
    c.requires.well_read.1 c.requires.room c.requires.faultless in
    let spans = sym c.items.ensures in
    subst IsValid
    (λ i. with_vars file (vars_of file text ((sym c.number_at-number.ensures) i) (spans i)) (length (spans i)))
    (subst (λ (k : RawKind). IsValid (extended file text k)) c.in-Vars.is valid)

pub equation_of-requires-clause-left : goal.equation_of-requires-clause-left
equation_of-requires-clause-left c =
    let file = c.args.self.now in
    let text = c.args.text.now in
    let well = subst (IsWellKind text) c.in-Hyp.is c.requires.well_read.1.kind in
    (small_sides file text false c.in-Hyp.equation well.1
    (sym (ap (sort_faults file text) c.in-Hyp.is) ∙ no_sort_faults file text c.args.raw.now c.requires.faultless)).0

pub equation_of-requires-clause-right : goal.equation_of-requires-clause-right
equation_of-requires-clause-right c =
    let file = c.args.self.now in
    let text = c.args.text.now in
    let well = subst (IsWellKind text) c.in-Hyp.is c.requires.well_read.1.kind in
    (small_sides file text false c.in-Hyp.equation well.1
    (sym (ap (sort_faults file text) c.in-Hyp.is) ∙ no_sort_faults file text c.args.raw.now c.requires.faultless)).1

pub add_hyp-requires-clause-valid : goal.add_hyp-requires-clause-valid
add_hyp-requires-clause-valid c =
    let file = c.args.self.now in
    let text = c.args.text.now in
    let valid = extended_is_valid file text _ c.args.raw.now c.requires.valid c.requires.size
    c.requires.well_read.1 c.requires.room c.requires.faultless in
    subst IsValid
    (λ i. with_hyp file (record {
      name = bytes_at text c.in-Hyp.name;
      equation = (sym c.in_ok-resolved-in-Hyp.ensures) i;
      nonzero = c.in-Hyp.equation.nonzero;
    }))
    (subst (λ (k : RawKind). IsValid (extended file text k)) c.in-Hyp.is valid)

pub equation_of-requires-in-Goal-clause-left : goal.equation_of-requires-in-Goal-clause-left
equation_of-requires-in-Goal-clause-left c =
    let file = c.args.self.now in
    let text = c.args.text.now in
    let well = subst (IsWellKind text) c.in-Goal.is c.requires.well_read.1.kind in
    let e = c.in-Goal.equation in
    let may = may_divide_by file text c.in-Goal.method in
    let faults = parts_empty (equation_sorts file text may e) _
    (sym (ap (sort_faults file text) c.in-Goal.is) ∙ no_sort_faults file text c.args.raw.now c.requires.faultless) in
    (small_sides file text may e well.0 faults.0).0

pub equation_of-requires-in-Goal-clause-right : goal.equation_of-requires-in-Goal-clause-right
equation_of-requires-in-Goal-clause-right c =
    let file = c.args.self.now in
    let text = c.args.text.now in
    let well = subst (IsWellKind text) c.in-Goal.is c.requires.well_read.1.kind in
    let e = c.in-Goal.equation in
    let may = may_divide_by file text c.in-Goal.method in
    let faults = parts_empty (equation_sorts file text may e) _
    (sym (ap (sort_faults file text) c.in-Goal.is) ∙ no_sort_faults file text c.args.raw.now c.requires.faultless) in
    (small_sides file text may e well.0 faults.0).1

pub method_of-requires-clause-options : goal.method_of-requires-clause-options
method_of-requires-clause-options c =
    let file = c.args.self.now in
    let text = c.args.text.now in
    let e = c.in-Goal.equation in
    let may = may_divide_by file text c.in-Goal.method in
    let faults = parts_empty (equation_sorts file text may e) _
    (sym (ap (sort_faults file text) c.in-Goal.is) ∙ no_sort_faults file text c.args.raw.now c.requires.faultless) in
    small_options file text _ _ c.in-Goal.method faults.1

pub add_goal-requires : goal.add_goal-requires
add_goal-requires c =
    let file = c.args.self.now in
    let text = c.args.text.now in
    let valid = extended_is_valid file text _ c.args.raw.now c.requires.valid c.requires.size
    c.requires.well_read.1 c.requires.room c.requires.faultless in
    subst IsValid
    (λ i. with_goal file (record {
      equation = (sym c.in_ok-equation-in-Goal.ensures) i;
      method = (sym c.in_ok-method-in-Goal.ensures) i;
    }))
    (subst (λ (k : RawKind). IsValid (extended file text k)) c.in-Goal.is valid)

pub returns-in_ok-resolved-in-Hyp-clause-ok : goal.returns-in_ok-resolved-in-Hyp-clause-ok
returns-in_ok-resolved-in-Hyp-clause-ok c =
    let file = c.args.self.now in
    let text = c.args.text.now in
    let is =
    (λ i. with_hyp file (record {
      name = bytes_at text c.in-Hyp.name;
      equation = c.in_ok-resolved-in-Hyp.ensures i;
      nonzero = c.in-Hyp.equation.nonzero;
    }))
    ∙ sym (ap (extended file text) c.in-Hyp.is) in
    subst (λ (f : File). OnOk c.add_hyp.result (c.add_hyp.new.self ≡ f)) is c.add_hyp.ensures.ok

pub returns-in_ok-method-in-Goal-clause-ok : goal.returns-in_ok-method-in-Goal-clause-ok
returns-in_ok-method-in-Goal-clause-ok c =
    let file = c.args.self.now in
    let text = c.args.text.now in
    let is =
    (λ i. with_goal file (record {
      equation = c.in_ok-equation-in-Goal.ensures i;
      method = c.in_ok-method-in-Goal.ensures i;
    }))
    ∙ sym (ap (extended file text) c.in-Goal.is) in
    subst (λ (f : File). OnOk c.add_goal.result (c.add_goal.new.self ≡ f)) is c.add_goal.ensures.ok
