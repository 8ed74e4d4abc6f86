use Rattle.std.proofs.Common.{◌≡◌, ◌≤◌, length, get_or, take}
use Rattle.std.specs.Str.Parse.{AllDigits, digits_value}
use Rattle.lg_lex.specs.Lexical.{MAX_NUMBER}
use Rattle.lg_lex.proofs.numbers.number_of.Given as goal

-- the bytes so far are digits, and write the value
abbrev pub invariant-loop-digit : goal.invariant-loop-digit
invariant-loop-digit l = record {
  digits : AllDigits 10 (take l.digit-index l.text);
  value_is : l.value ≡ digits_value 10 (take l.digit-index l.text);
  low : l.value ≤ MAX_NUMBER;
  plain : get_or l.text 0 0 ≡ 48 → length l.text ≡ 1;
}
