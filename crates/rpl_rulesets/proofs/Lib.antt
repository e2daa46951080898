mod RulesetPolicy
