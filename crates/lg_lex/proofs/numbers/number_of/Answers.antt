use Rattle.std.proofs.Common.{◌≡◌, ◌+◌, ◌∙◌, true, get_or, refl}
use Rattle.lg_lex.specs.Bytes.{is_digit}
use Rattle.lg_lex.specs.Lexical.{IsNumber}
use Rattle.lg_lex.proofs.DecimalLemmas.{refused_zero, refused_byte, refused_value, digits_step, value_step, value_found}
use Rattle.lg_lex.proofs.FrontLemmas.{if_none}
use Rattle.lg_lex.proofs.numbers.number_of.Goals as goal

pub returns-then-text-eq48-clause-none : goal.returns-then-text-eq48-clause-none
returns-then-text-eq48-clause-none c = λ h. refused_zero c.args.text.now h c.if-text-gt1.true c.if-text-eq48.true

pub returns-then-not-is_digit-clause-none : goal.returns-then-not-is_digit-clause-none
returns-then-not-is_digit-clause-none c = λ h. refused_byte c.args.text.now c.loop-digit.digit-index h c.loop-digit-test.true (cc)

pub returns-in_err-value-clause-none : goal.returns-in_err-value-clause-none
returns-in_err-value-clause-none c =
    let digit : is_digit (get_or c.args.text.now c.loop-digit.digit-index 0) ≡ true = cc in
    if_none _ (IsNumber c.args.text.now → ⊥) (λ h. refused_value c.args.text.now (c.loop-digit.digit-index + 1) _ h (value_step c.args.text.now c.loop-digit.digit-index c.loop-digit.value _ c.loop-digit-test.true c.loop-digit.invariant.value_is digit refl) c.in_err-value.ensures.none)

pub loop-digit-preserved : goal.loop-digit-preserved
loop-digit-preserved c =
    let digit : is_digit (get_or c.args.text.now c.loop-digit.digit-index 0) ≡ true = cc in
    record {
      digits = digits_step c.args.text.now c.loop-digit.digit-index c.loop-digit-test.true c.loop-digit.invariant.digits digit;
      value_is = c.in_ok-value.ensures.found ∙ value_step c.args.text.now c.loop-digit.digit-index c.loop-digit.value _ c.loop-digit-test.true c.loop-digit.invariant.value_is digit refl;
      low = c.in_ok-value.ensures.small;
      plain = c.loop-digit.invariant.plain;
    }

pub returns-clause-found : goal.returns-clause-found
returns-clause-found c =
    value_found c.args.text.now c.loop-digit.digit-index c.loop-digit.value c.loop-digit-test.false c.requires c.loop-digit.invariant.digits c.loop-digit.invariant.value_is c.loop-digit.invariant.low c.loop-digit.invariant.plain
