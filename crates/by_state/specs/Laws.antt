pub mod MoveListLaws
