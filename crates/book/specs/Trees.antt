-- The rules that the code holds, as the meaning is defined on them. Assumes nothing.
use Rattle.std.specs.Prelude.{List, [], ◌∷◌, vec_items}
use Rattle.book.specs.declared.rules.Pattern as held-pattern
use Rattle.book.specs.declared.rules.Pattern.TheVariants as patterns
use Rattle.book.specs.declared.rules.Rule as held-rule
use Rattle.book.specs.declared.rules.Rule.TheVariants as rules
use Rattle.book.specs.Rules.{Pattern, never, lines, Rule, duty, trigger, bracket}

abbrev pub pure_pattern : held-pattern.Pattern → Pattern
pure_pattern patterns.Never = never
pure_pattern (patterns.Lines bs cs) = lines (vec_items bs) (vec_items cs)

abbrev pub pure_rule : held-rule.Rule → Rule
pure_rule (rules.Duty k p q) = duty k (pure_pattern p) (pure_pattern q)
pure_rule (rules.Trigger' k p q a r) = trigger k (pure_pattern p) (pure_pattern q) (pure_rule r)
pure_rule (rules.Bracket' k a r b t) = bracket k (pure_rule r) (pure_rule t)

abbrev pub pure_rules : List held-rule.Rule → List Rule
pure_rules [] = []
pure_rules (r ∷ rs) = pure_rule r ∷ pure_rules rs
