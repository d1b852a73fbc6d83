pub mod PackingLaws
pub mod RowLaws
pub mod OneGeometry
