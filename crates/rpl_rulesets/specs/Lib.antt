pub mod RulesPolicy
