use Rattle.rw_base.proofs.Common.{rules, same_from_decides}
use Rattle.rw_model.specs.Kind.{is_kind}
use Rattle.rw_model.proofs.BuildFacts.{Decides-kind}
use Rattle.rw_model.proofs.kind.is_kind.Goals as goal

pub returns-in-DataObject-clause-kind : goal.returns-in-DataObject-clause-kind
returns-in-DataObject-clause-kind c = search rules

pub returns-in-DataObject-clause-test : goal.returns-in-DataObject-clause-test
returns-in-DataObject-clause-test c =
    same_from_decides _ (is_kind c.args.kind.now) (returns-in-DataObject-clause-kind c) (Decides-kind c.args.kind.now)

pub returns-in-Reach-clause-kind : goal.returns-in-Reach-clause-kind
returns-in-Reach-clause-kind c = search rules

pub returns-in-Reach-clause-test : goal.returns-in-Reach-clause-test
returns-in-Reach-clause-test c = same_from_decides _ (is_kind c.args.kind.now) (returns-in-Reach-clause-kind c) (Decides-kind c.args.kind.now)

pub returns-in-PowerReservoir-clause-kind : goal.returns-in-PowerReservoir-clause-kind
returns-in-PowerReservoir-clause-kind c = search rules

pub returns-in-PowerReservoir-clause-test : goal.returns-in-PowerReservoir-clause-test
returns-in-PowerReservoir-clause-test c =
    same_from_decides _ (is_kind c.args.kind.now) (returns-in-PowerReservoir-clause-kind c) (Decides-kind c.args.kind.now)

pub returns-in-RoutedReach-clause-kind : goal.returns-in-RoutedReach-clause-kind
returns-in-RoutedReach-clause-kind c = search rules

pub returns-in-RoutedReach-clause-test : goal.returns-in-RoutedReach-clause-test
returns-in-RoutedReach-clause-test c =
    same_from_decides _ (is_kind c.args.kind.now) (returns-in-RoutedReach-clause-kind c) (Decides-kind c.args.kind.now)
