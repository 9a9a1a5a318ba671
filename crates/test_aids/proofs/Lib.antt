mod NextRequest
pub mod ReadFront
