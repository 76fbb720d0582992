pub mod ToldLaws
pub mod SayLaws
pub mod PackLaws
pub mod HoldLaws
pub mod StatusLaws
pub mod RefusedLaws
pub mod FollowLaws
pub mod PutBack
