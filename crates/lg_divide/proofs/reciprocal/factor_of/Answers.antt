use Rattle.lg_divide.proofs.Products.{made}
use Rattle.lg_divide.proofs.reciprocal.factor_of.Goals as goal

pub overflow_add-factor-2 : goal.overflow_add-factor-2
overflow_add-factor-2 c = let a = c.args in let r = c.requires in
    record { fits = (made a.bits a.shift a.divisor c.from.result r.bits r.few r.some r.small r.shift c.from.ensures).below }

pub overflow_sub-result : goal.overflow_sub-result
overflow_sub-result c = let a = c.args in let r = c.requires in
    (made a.bits a.shift a.divisor c.from.result r.bits r.few r.some r.small r.shift c.from.ensures).high

pub overflow_cast-result-2 : goal.overflow_cast-result-2
overflow_cast-result-2 c = let a = c.args in let r = c.requires in
    record { fits = (made a.bits a.shift a.divisor c.from.result r.bits r.few r.some r.small r.shift c.from.ensures).narrow }

pub returns-clause-fits : goal.returns-clause-fits
returns-clause-fits c = let a = c.args in let r = c.requires in
    (made a.bits a.shift a.divisor c.from.result r.bits r.few r.some r.small r.shift c.from.ensures).low

pub returns-clause-is : goal.returns-clause-is
returns-clause-is c = let a = c.args in let r = c.requires in
    (made a.bits a.shift a.divisor c.from.result r.bits r.few r.some r.small r.shift c.from.ensures).is

pub returns-clause-few : goal.returns-clause-few
returns-clause-few c = let a = c.args in let r = c.requires in
    (made a.bits a.shift a.divisor c.from.result r.bits r.few r.some r.small r.shift c.from.ensures).few
